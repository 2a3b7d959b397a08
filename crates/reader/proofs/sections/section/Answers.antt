-- No line of the count stands, and the section is missing or lacks; the count does not fit; or it does, and is
-- all, or its entries follow. Each answer is one law of SectionSteps.antt, by what was asked so far.
use Rattle.std.proofs.Common.{inl, inr}
use Rattle.std.proofs.lemmas.Result.{err_from_is_err_and}
use Rattle.reader.proofs.SectionSteps.{Asked, step_missing, step_lacks, step_unfit}
use Rattle.reader.proofs.SectionSteps.{step_counted, entries_ready, step_stops, step_entries}
use Rattle.reader.proofs.sections.section.Goals.{After-count, then-count-terms-via-then-count-terms}
use Rattle.reader.proofs.sections.section.Goals.{then-count-terms-via-else-count-terms+then-terms-count}
use Rattle.reader.proofs.sections.section.Goals as goal

asked : (c : After-count)
    → Asked c.args.text.now c.args.which c.args.read.0 c.args.read.1 c.args.table.now c.fill_first.new.list
    c.terms_of-terms.result c.word_of.result.now c.count.result
asked c = record {
  is_terms = c.terms_of-terms.ensures;
  zeros = c.fill_first.ensures;
  long = c.requires.1;
  is_word = c.word_of.ensures;
  line = c.count.ensures;
}

pub returns-then-terms : goal.returns-then-terms
returns-then-terms c =
    step_missing _ _ _ _ _ _ _ _ _ _ (asked (goal.at.returns-then-terms c).After-count) c.in_default.is
    c.if-terms.true

pub returns-in_default : goal.returns-in_default
returns-in_default c =
    step_lacks _ _ _ _ _ _ _ _ _ _ (asked (goal.at.returns-in_default c).After-count) c.in_default.is
    c.if-terms.false _ c.new.ensures

pub returns-then-count-terms : goal.returns-then-count-terms
returns-then-count-terms c =
    step_unfit _ _ _ _ _ _ _ _ _ _ (asked (goal.at.returns-then-count-terms c).After-count) _ _ c.in-Some.is
    _ c.new-then-count-terms.ensures
    (elim c.then-count-terms.branch [
      | then-count-terms-via-then-count-terms w ↦ inl w.if-count-terms.true
      | then-count-terms-via-else-count-terms+then-terms-count w ↦ inr w.if-terms-count.true
    ])

pub returns-in_default-which : goal.returns-in_default-which
returns-in_default-which c =
    step_counted _ _ _ _ _ _ _ _ _ _ (asked (goal.at.returns-in_default-which c).After-count) _ _ c.in-Some.is
    c.if-count-terms.false c.if-terms-count.false _ c.with_count-job.ensures c.in_default-which.not-Listed

pub entry_lines-requires : goal.entry_lines-requires
entry_lines-requires c =
    entries_ready _ _ _ _ _ _ _ _ _ _ (asked (goal.at.entry_lines-requires c).After-count) _ _ c.in-Some.is
    c.if-count-terms.false c.if-terms-count.false _ c.with_count-job.ensures
    _ c.in-Listed.is c.requires.0 c.fill_first.auto.list

pub returns-in_err-behind : goal.returns-in_err-behind
returns-in_err-behind c =
    let p = err_from_is_err_and c.from_residual.result c.from_residual.ensures.1 in
    rw (p.1, p.2)
    (step_stops _ _ _ _ _ _ _ _ _ _ (asked (goal.at.returns-in_err-behind c).After-count) _ _ c.in-Some.is
    c.if-count-terms.false c.if-terms-count.false _ c.with_count-job.ensures
    _ c.in-Listed.is c.requires.0 _ _ c.in_err-behind.ensures)

pub returns : goal.returns
returns c =
    step_entries _ _ _ _ _ _ _ _ _ _ (asked (goal.at.returns c).After-count) _ _ c.in-Some.is
    c.if-count-terms.false c.if-terms-count.false _ c.with_count-job.ensures
    _ c.in-Listed.is c.requires.0 _ c.entry_lines.auto.table _ c.in_ok-behind.ensures
