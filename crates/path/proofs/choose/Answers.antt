-- A list that the question about it finds sound passes, one that it refuses does not, and each return is one case
-- of `Chosen`. What is returned is the reference that was lent, or the part of the own list that ends where it
-- begins.
use Rattle.std.proofs.Common.{refl, sym}
use Rattle.hall.proofs.Answers.{affirmed, denied}
use Rattle.path.specs.Paths.{own_list, spare_list, neither}
use Rattle.path.proofs.Agree.{answers_passes}
use Rattle.path.proofs.choose.Goals as goal

pub returns-then-is_ok : goal.returns-then-is_ok
returns-then-is_ok c =
    let passes = affirmed _ (sym c.if-is_ok.ensures.value) (answers_passes c.judge.ensures) in
    record { chosen = own_list passes refl; network_kept = refl; own_kept = refl; spare_kept = refl }

pub returns-then-is_ok-2 : goal.returns-then-is_ok-2
returns-then-is_ok-2 c =
    let own_fails = denied _ (sym c.if-is_ok.ensures.value) (answers_passes c.judge.ensures) in
    let passes = affirmed _ (sym c.if-is_ok-2.ensures.value) (answers_passes c.judge-2.ensures) in
    record {
      chosen = spare_list own_fails passes refl;
      network_kept = refl;
      own_kept = refl;
      spare_kept = refl;
    }

pub returns : goal.returns
returns c =
    let own_fails = denied _ (sym c.if-is_ok.ensures.value) (answers_passes c.judge.ensures) in
    let spare_fails = denied _ (sym c.if-is_ok-2.ensures.value) (answers_passes c.judge-2.ensures) in
    record {
      chosen = neither own_fails spare_fails refl refl;
      network_kept = refl;
      own_kept = refl;
      spare_kept = refl;
    }
