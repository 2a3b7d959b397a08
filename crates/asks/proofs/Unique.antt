-- One outcome fits each promise of this crate. Of two first faults there is one, and none where an answer is
-- sound (hall's `judged_unique`); a house path and a fault exclude each other, and two house paths of one
-- move, with the lists that they leave, are equal (path's `left_unique`). The lists that are only read are as
-- they came, both times. One theorem for each public function. Assumes nothing.
use mathlib.Core.Path.{◌≡◌, sym, ◌∙◌}
use mathlib.Core.List.{List}
use Prim.Native.Nat.{ℕ, ◌<◌}
use lib.ListN.{length}
use Rattle.std.specs.Prelude.{Result}
use Rattle.hall.specs.declared.Refusal.{Refusal}
use Rattle.hall.specs.Limits.{node_limit}
use Rattle.hall.specs.Job.{Numbers, start, goal}
use Rattle.hall.specs.Said.{Judged}
use Rattle.hall.specs.Questions.{asked_question, house_of_job, list_of_job}
use Rattle.hall.proofs.Stages.{judged_unique}
use Rattle.path.specs.Paths.{Unfit}
use Rattle.path.proofs.Unique.{left_unique}
use Rattle.asks.specs.Asked.{HouseAsked, ListAsked}

pub check_asked_unique : (j : Numbers) (c : ℕ) (r r' : Result Unit Refusal) →
    Judged (asked_question j c) r → Judged (asked_question j c) r' → r ≡ r'
check_asked_unique j c = judged_unique (asked_question j c)

pub house_for_unique : {j j' j'' : Numbers} {c : ℕ} {path l l' : List ℕ} {r r' : Result ℕ Refusal} →
    HouseAsked j j' c path l r → HouseAsked j j'' c path l' r' → (r ≡ r') × (l ≡ l') × (j' ≡ j'')
house_for_unique {j} {c = c} {path = path} {l = l} {l' = l'} {r = r} {r' = r'} a b =
    let e =
    left_unique (house_of_job (length path < node_limit) j c)
    j.network (start j c) (goal j c) path l l' r r' a.given b.given in
    (e.0, e.1, a.job_kept ∙ sym b.job_kept)

pub judge_for_unique : {j j' j'' : Numbers} {c : ℕ} {list l l' : List ℕ} {r r' : Result Unit Refusal} →
    ListAsked j j' c list l r → ListAsked j j'' c list l' r' → (r ≡ r') × (l ≡ l') × (j' ≡ j'')
judge_for_unique {j} {c = c} {list = list} {r = r} {r' = r'} a b =
    let question = list_of_job j c (Unfit j.network (start j c) (goal j c) list) in (
      judged_unique question r r' a.judged b.judged,
      a.list_kept ∙ sym b.list_kept,
      a.job_kept ∙ sym b.job_kept,
    )
