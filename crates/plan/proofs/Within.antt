-- The answer to a text is never longer than the bytes that were lent, and where there was room they begin with
-- it. What `read_full` puts into a buffer is the first bytes of the input, and a long input has the answer of
-- those. Assumes nothing.
--     answer_within     the answer is within the lent bytes
--     front_sized       so many bytes of them as the answer says
--     input_answered    the answer to what was read is the answer to the input, once it is written
use Rattle.std.proofs.Common.{◌≡◌, ℕ, ◌≤◌, ◌<◌, List, Option, None, Some, IfSome, Result, Ok, Err, OnOk, arith, length, take, sym, subst, length-take-le}
use Rattle.std.specs.Io.KnownBytes.{Appends, Consumes, IsAtEnd}
use Rattle.input.proofs.Unique.{read_front}
use Rattle.report.specs.Answer.{AnswerText, Answering, whole, nothing}
use Rattle.report.proofs.Printing.{prints_front, prints_within}
use Rattle.report.proofs.OneAnswer.{answer_of_front}
use Rattle.plan.specs.Answered.{Answered}

pub answer_within : {Text : List ℕ → Type 0} {out out' : List ℕ} {r : ℕ} →
    Answering Text out out' r → r ≤ length out'
answer_within (whole room says p) = prints_within p
answer_within (nothing short u) = omega (arith, u.size)

pub front_sized : {Text : List ℕ → Type 0} {out out' : List ℕ} {r : ℕ} →
    Answering Text out out' r → r ≡ length (take r out')
front_sized {out' = out'} {r = r} says = sym (length-take-le r out' (answer_within says))

-- ---- what was read

first_bytes : (old new : Option (List ℕ)) (buf : List ℕ) (n : ℕ) → n ≤ length buf → Consumes old new (take n buf)
    → (n < length buf → IsAtEnd new) → IfSome old (λ xs. take (length buf) xs ≡ take n buf)
first_bytes None new buf n within gave ended = tt
first_bytes (Some xs) None buf n within gave ended = absurd gave
first_bytes (Some xs) (Some ys) buf n within gave ended = read_front xs buf ys n within gave ended

-- ---- what was written

-- where a call does not fail, more follows of what it says
on_ok : {T E A B : Type 0} (r : Result T E) → (A → B) → OnOk r A → OnOk r B
on_ok (Ok x) f a = f a
on_ok (Err e) f a = tt

answered : (text out out' : List ℕ) (r : ℕ) (before after : Option (List ℕ)) → 2048 ≤ length out
    → Answering (AnswerText text) out out' r → Appends before after (take r out')
    → (printed : List ℕ) × AnswerText text printed × Appends before after printed
answered text out out' r before after room (whole {printed = printed} long says p) wrote =
    (printed, says, subst (Appends before after) (prints_front p) wrote)
answered text out out' r before after room (nothing short u) wrote = absurd (let x : ⊥ = omega arith in x)

whole_answered : (old new before after : Option (List ℕ)) (buf out out' : List ℕ) (n r : ℕ)
    → 47111 ≤ length buf → 2048 ≤ length out → n ≤ length buf → Consumes old new (take n buf)
    → (n < length buf → IsAtEnd new) → Answering (AnswerText (take n buf)) out out' r
    → Appends before after (take r out') → Answered old before after
whole_answered None new before after buf out out' n r long room within gave ended says wrote = tt
whole_answered (Some xs) new before after buf out out' n r long room within gave ended says wrote =
    let first : take (length buf) xs ≡ take n buf = first_bytes (Some xs) new buf n within gave ended in
    let told = subst (λ (l : List ℕ). Answering (AnswerText l) out out' r) (sym first) says in
    answered xs out out' r before after room (answer_of_front (length buf) xs long told) wrote

pub input_answered : {T E : Type 0} (result : Result T E) (old new before after : Option (List ℕ))
    (buf out out' : List ℕ) (n r : ℕ)
    → 47111 ≤ length buf → 2048 ≤ length out → n ≤ length buf → Consumes old new (take n buf)
    → (n < length buf → IsAtEnd new) → Answering (AnswerText (take n buf)) out out' r
    → OnOk result (Appends before after (take r out')) → OnOk result (Answered old before after)
input_answered result old new before after buf out out' n r long room within gave ended says wrote =
    on_ok
    result
    (whole_answered old new before after buf out out' n r long room within gave ended says)
    wrote
