-- The causes of an open slot and of the count decide; accepted, the bitmaps and the list are the definition's.
use Prim.Native.Nat.{ℕ}
use native.Mathlib.Omega.{arith}
use mathlib.Core.Path.{◌≡◌, sym, ap, ◌∙◌}
use mathlib.Core.Option.{some}
use mathlib.Core.List.{◌++◌}
use Rattle.std.specs.Prelude.{Ok}
use Rattle.model.specs.Rules.Calls.Allocate.{allocate_error, first_met, allocate_answer, allocate_memory, allocate_list}
use Rattle.model.proofs.Laws.Calls.Accepted.{AllocateAccepted, precommit-accepted, allocate-accepted}
use Rattle.model.proofs.Laws.Calls.Answered.{told-refusal}
use Rattle.model.proofs.Laws.Memory.Valid.{valid-parts}
use Rattle.model.proofs.Laws.Memory.Taking.{met-length}
use Rattle.verdicts.proofs.Laws.Ready.{handed-on, pass, slot-is, refused-by, gives, leaves-new, leaves-all}
use Rattle.causes.proofs.Laws.Available.{can-count}
use Rattle.reserves.proofs.Laws.Few.{few-at}
use Rattle.available.proofs.Laws.Took.{took, first-listed}
use Rattle.allocate.proofs.Laws.Allocate.{by-open, refused, none-held, some-met, can-take, first-blocks}
use Rattle.allocate.proofs.allocate.Goals as goal

pub returns-in_err-ready : goal.returns-in_err-ready
unfolding allocate_answer allocate_memory allocate_list
returns-in_err-ready c =
    let refused : allocate_error c.args.memory.now c.args.slot c.args.count c.args.list.now ≡ some c.in_err-ready.field-0.0 =
    by-open c.args.memory.now c.args.slot c.args.count c.args.list.now (told-refusal _ _ _ (sym c.in_err-ready.ensures.answers)) in
    record { answers = handed-on c.from_residual.ensures.1 ∙ refused-by _ refused; leaves = leaves-all _ _ refused; lists = leaves-all _ _ refused }

pub available_now-available-requires : goal.available_now-available-requires
available_now-available-requires c =
    let told = pass c.in_ok-ready.ensures.answers in
    can-count c.args.memory.now told.counted-is (precommit-accepted _ _ told.none-found).ready.is_valid

pub returns-in_err-grant_causes : goal.returns-in_err-grant_causes
unfolding allocate_answer allocate_memory allocate_list
returns-in_err-grant_causes c =
    let a = c.args in
    let found = refused a.memory.now a.slot a.count a.list.now (pass c.in_ok-ready.ensures.answers) c.available_now-available.ensures c.others-kept.ensures
    c.in_err-grant_causes.ensures in
    record { answers = handed-on c.from_residual-in_err-grant_causes.ensures.1 ∙ refused-by _ found; leaves = leaves-all _ _ found; lists = leaves-all _ _ found }

pub take_met-memory-requires : goal.take_met-memory-requires
take_met-memory-requires c =
    let a = c.args in
    let told = pass c.in_ok-ready.ensures.answers in
    let shape = c.in_ok-ready.ensures.shape in
    let t = allocate-accepted a.memory.now a.slot a.count a.list.now
    (none-held a.memory.now a.slot a.count a.list.now told c.available_now-available.ensures c.others-kept.ensures c.in_ok-grant_causes.ensures) in
    can-take a.memory.now a.slot a.count a.list.now (slot-is _ shape told.at-is c.in_ok-ready.ensures.below) shape (valid-parts _ t.ready.is_valid) t.enough t.room

pub draw-requires : goal.draw-requires
draw-requires c =
    let a = c.args in
    let t = allocate-accepted a.memory.now a.slot a.count a.list.now
    (none-held a.memory.now a.slot a.count a.list.now (pass c.in_ok-ready.ensures.answers) c.available_now-available.ensures c.others-kept.ensures
    c.in_ok-grant_causes.ensures) in
    record { few = few-at a.memory.now _ (valid-parts _ t.ready.is_valid) c.in_ok-ready.ensures.below; count_le_max_count = t.few }

pub bounds-list-0 : goal.bounds-list-0
bounds-list-0 c =
    let a = c.args in
    let t : AllocateAccepted a.memory.now a.slot a.count a.list.now =
    allocate-accepted a.memory.now a.slot a.count a.list.now
    (none-held a.memory.now a.slot a.count a.list.now (pass c.in_ok-ready.ensures.answers) c.available_now-available.ensures c.others-kept.ensures
    c.in_ok-grant_causes.ensures) in
    omega (arith, t.some, t.room)

pub returns : goal.returns
unfolding allocate_answer allocate_memory allocate_list
returns c =
    let a = c.args in
    let m = a.memory.now in
    let told = pass c.in_ok-ready.ensures.answers in
    let none-is = none-held m a.slot a.count a.list.now told c.available_now-available.ensures c.others-kept.ensures c.in_ok-grant_causes.ensures in
    let t = allocate-accepted m a.slot a.count a.list.now none-is in
    let below = c.in_ok-ready.ensures.below in
    let read = slot-is _ c.in_ok-ready.ensures.shape told.at-is below in
    let blocks = first_met m a.count in
    let taken = rw first-blocks at c.take_met-memory.ensures.takes in
    let moved = rw first-blocks at c.take_met-memory.ensures.moves in
    record {
      answers = ap Ok (first-listed a.count blocks a.list.now _ (some-met m a.slot a.count a.list.now t) taken.listed) ∙ gives _ none-is;
      leaves =
          took m a.slot a.count _ _ _ _ told.at-is read blocks a.list.now _ _ _ taken moved c.draw.ensures
          (met-length m a.count (valid-parts _ t.ready.is_valid).cursor_below t.enough)
          ∙ leaves-new _ _ none-is;
      lists = taken.listed ∙ leaves-new _ _ none-is;
    }
