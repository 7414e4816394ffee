-- The causes decide; accepted, the disk and the memory are the definition's.
use mathlib.Core.Path.{◌≡◌, sym, ap, ◌∙◌}
use mathlib.Core.Option.{some}
use Rattle.std.specs.Prelude.{Ok}
use Rattle.model.specs.Rules.Calls.Store.{store_error, next_stored, store_answer, store_memory, store_disk}
use Rattle.model.proofs.Laws.Calls.Accepted.{accepted-store}
use Rattle.verdicts.proofs.Laws.Ready.{handed-on, refused-by, gives, leaves-new, leaves-all}
use Rattle.store.proofs.Laws.Causes.{sound, by-check, by-length, by-disk, by-pending}
use Rattle.store.proofs.store.Goals as goal

pub returns-in_err-check : goal.returns-in_err-check
unfolding store_answer store_memory store_disk
returns-in_err-check c =
    let refused : store_error c.args.memory.now c.args.disk.now ≡ some c.in_err-check.field-0.0 =
    by-check c.args.memory.now c.args.disk.now c.in_err-check.ensures.answers in
    record { answers = handed-on c.from_residual.ensures.1 ∙ refused-by _ refused; leaves = leaves-all _ _ refused; writes = leaves-all _ _ refused }

pub returns-in_default : goal.returns-in_default
unfolding store_answer store_memory store_disk
returns-in_default c =
    let v = sound c.args.memory.now c.in_ok-check.ensures.answers in
    let refused = by-length c.args.memory.now c.args.disk.now v c.in_default.ensures.cases in
    record { answers = refused-by _ refused; leaves = leaves-all _ _ refused; writes = leaves-all _ _ refused }

pub matches-requires-clause-sound : goal.matches-requires-clause-sound
matches-requires-clause-sound c = sound c.args.memory.now c.in_ok-check.ensures.answers

pub returns-then-not-matches : goal.returns-then-not-matches
unfolding store_answer store_memory store_disk
returns-then-not-matches c =
    let memory = c.args.memory.now in
    let chunk = c.in-Some.ensures.cases in
    let v = sound memory c.in_ok-check.ensures.answers in
    let refused = by-disk memory c.args.disk.now v chunk.long (rw chunk.same at (sym c.matches.ensures ∙ c.if-not-matches.true)) in
    record { answers = refused-by _ refused; leaves = leaves-all _ _ refused; writes = chunk.same ∙ leaves-all _ _ refused }

pub returns-then-is_nothing : goal.returns-then-is_nothing
unfolding store_answer store_memory store_disk
returns-then-is_nothing c =
    let memory = c.args.memory.now in
    let chunk = c.in-Some.ensures.cases in
    let v = sound memory c.in_ok-check.ensures.answers in
    let refused =
    by-pending memory c.args.disk.now v chunk.long (rw chunk.same at (sym c.matches.ensures ∙ c.if-not-matches.false))
    (sym c.is_nothing.ensures ∙ c.if-is_nothing.true) in
    record { answers = refused-by _ refused; leaves = leaves-all _ _ refused; writes = chunk.same ∙ leaves-all _ _ refused }

pub store_next-requires-clause-sound : goal.store_next-requires-clause-sound
store_next-requires-clause-sound c = sound c.args.memory.now c.in_ok-check.ensures.answers

pub advance-requires-clause-sound : goal.advance-requires-clause-sound
advance-requires-clause-sound c = sound c.args.memory.now c.in_ok-check.ensures.answers

pub returns : goal.returns
unfolding store_answer store_memory store_disk
returns c =
    let memory = c.args.memory.now in
    let disk = c.args.disk.now in
    let chunk = c.in-Some.ensures.cases in
    let none-is =
    accepted-store memory disk
    (record {
      is_valid = sound memory c.in_ok-check.ensures.answers;
      size = chunk.long;
      matches = rw chunk.same at (sym c.matches.ensures ∙ c.if-not-matches.false);
      pending = sym c.is_nothing.ensures ∙ c.if-is_nothing.false;
    }) in
    record {
      answers = ap Ok c.advance.ensures.gives ∙ gives _ none-is;
      leaves = c.advance.ensures.leaves ∙ leaves-new _ _ none-is;
      writes = c.store_next.ensures ∙ ap (next_stored memory) chunk.same ∙ leaves-new _ _ none-is;
    }
