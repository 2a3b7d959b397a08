-- One outcome fits each promise of this crate. What a question answers and leaves is one (recorded's
-- `Unique`), so the records that it leaves of those lent are one list, and with those behind, which came in,
-- so is what is written of them. Assumes nothing.
--     lending_unique     the numbers that are written are one list, where what the question leaves is
--     read_lent_unique, plan_lent_unique, house_lent_unique, judge_lent_unique, write_lent_unique
--                        one theorem for each public function: answers, tables and numbers
use mathlib.Core.Path.{◌≡◌, sym, ap, ◌∙◌}
use mathlib.Core.List.{List, ◌++◌}
use Prim.Native.Nat.{ℕ}
use Rattle.std.proofs.Common.{Result}
use Rattle.hall.specs.declared.Job.{Job}
use Rattle.hall.specs.declared.Refusal.{Refusal}
use Rattle.hall.specs.Floor.{Network}
use Rattle.records.specs.declared.Record.{Record}
use Rattle.recorded.proofs.Unique.{read_job_unique, plan_unique, house_unique, judge_unique, write_unique}
use Rattle.try_columns.specs.Columns.{told_to}
use Rattle.try_records.specs.Lent.{front_of, back_of, Lending}
use Rattle.try_records.specs.Lent.{LentReading, LentPlanning, LentHouse, LentList, LentWriting}

module _ (count : ℕ) (records : List Record) where
  abbrev front : List Record
  front = front_of count records

  module _ (fields f g : List ℕ) where
    pub lending_unique : (A B : (records left : List Record) → Type 0) (a : Lending A count records fields f)
        (b : Lending B count records fields g) → a.left ≡ b.left → f ≡ g
    lending_unique A B a b same =
        a.told ∙ ap (λ (rs : List Record). told_to (rs ++ back_of count records) fields) same ∙ sym b.told

    pub read_lent_unique : (text t u lanes l m closed cs ds order o p : List ℕ) (r s : Result Job Refusal)
        → LentReading text t lanes l closed cs count order o records fields f r
        → LentReading text u lanes m closed ds count order p records fields g s
        → (r ≡ s) × (t ≡ u) × (l ≡ m) × (cs ≡ ds) × (o ≡ p) × (f ≡ g)
    read_lent_unique text t u lanes l m closed cs ds order o p r s a b =
        let e =
        read_job_unique text lanes closed front order r s t u l m cs ds a.left b.left o p a.asked b.asked
        in
        (e.0, e.1, e.2, e.3, e.5, lending_unique _ _ a b e.4)

    pub plan_lent_unique : (N M O : Network) (order o p : List ℕ) (dwell : ℕ) (table t u : List ℕ)
        (r s : Result ℕ Refusal) → LentPlanning N M count order o dwell table t records fields f r
        → LentPlanning N O count order p dwell table u records fields g s
        → (r ≡ s) × (M ≡ O) × (o ≡ p) × (t ≡ u) × (f ≡ g)
    plan_lent_unique N M O order o p dwell table t u r s a b =
        let e =
        plan_unique N front order dwell table r s M O a.left b.left o p t u a.asked b.asked
        in
        (e.0, e.1, e.3, e.4, lending_unique _ _ a b e.2)

  module _ (N M O : Network) (order o p : List ℕ) (dwell : ℕ) where
    pub house_lent_unique : (c : ℕ) (path t u : List ℕ) (r s : Result ℕ Refusal)
        → LentHouse N M count order o dwell c path t records r
        → LentHouse N O count order p dwell c path u records s
        → (r ≡ s) × (M ≡ O) × (o ≡ p) × (t ≡ u)
    house_lent_unique c path t u r s a b =
        let e = house_unique N front order dwell c M O front front o p path t u r s a b in
        (e.0.0, e.1.0, e.1.2, e.0.1)

    pub judge_lent_unique : (c : ℕ) (list t u : List ℕ) (r s : Result Unit Refusal)
        → LentList N M count order o dwell c list t records r
        → LentList N O count order p dwell c list u records s
        → (r ≡ s) × (M ≡ O) × (o ≡ p) × (t ≡ u)
    judge_lent_unique c list t u r s a b =
        let e = judge_unique N front order dwell c M O front front o p list t u r s a b in
        (e.0.0, e.1.0, e.1.2, e.0.1)

    pub write_lent_unique : (out t u : List ℕ) (r s : Result ℕ Refusal)
        → LentWriting N M count order o dwell out t records r
        → LentWriting N O count order p dwell out u records s
        → (r ≡ s) × (M ≡ O) × (o ≡ p) × (t ≡ u)
    write_lent_unique out t u r s a b =
        let e = write_unique N front order dwell M O front front o p out t u r s a b in
        (e.0.0, e.1.0, e.1.2, e.0.1)
