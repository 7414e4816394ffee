-- The causes of an open slot and of the request decide, and whether there is an extent; accepted, the bitmaps and the list are
-- the definition's.
use native.Mathlib.Omega.{arith}
use mathlib.Core.Path.{◌≡◌, sym, ap, ◌∙◌}
use Rattle.std.specs.Prelude.{Ok}
use Rattle.model.specs.Rules.Calls.AllocateExtent.{nearest_extent, allocate_extent_answer, allocate_extent_memory, allocate_extent_list}
use Rattle.model.proofs.Laws.Calls.Accepted.{AllocateExtentAccepted, allocate-extent-accepted}
use Rattle.model.proofs.Laws.Calls.Answered.{told-refusal}
use Rattle.model.proofs.Laws.Memory.Valid.{valid-parts}
use Rattle.model.proofs.Laws.Promises.Extents.{nearest-length}
use Rattle.verdicts.proofs.Laws.Ready.{handed-on, pass, slot-is, refused-by, gives, leaves-new, leaves-all}
use Rattle.reserves.proofs.Laws.Few.{few-at}
use Rattle.available.proofs.Laws.Took.{took}
use Rattle.allocate_extent.proofs.Laws.AllocateExtent.{by-open, by-request, can-search, start-is, by-search, refused, none-held, start_first, within, can-take, moved-behind, took-nearest}
use Rattle.allocate_extent.proofs.allocate_extent.Goals as goal

pub returns-in_err-ready : goal.returns-in_err-ready
unfolding allocate_extent_answer allocate_extent_memory allocate_extent_list
returns-in_err-ready c =
    let a = c.args in
    let found = by-open a.memory.now a.slot a.count a.near a.list.now (told-refusal _ _ _ (sym c.in_err-ready.ensures.answers)) in
    record { answers = handed-on c.from_residual.ensures.1 ∙ refused-by _ found; leaves = leaves-all _ _ found; lists = leaves-all _ _ found }

pub returns-in_err-request_causes : goal.returns-in_err-request_causes
unfolding allocate_extent_answer allocate_extent_memory allocate_extent_list
returns-in_err-request_causes c =
    let a = c.args in
    let found = by-request a.memory.now a.slot a.count a.near a.list.now (pass c.in_ok-ready.ensures.answers) c.in_err-request_causes.ensures in
    record { answers = handed-on c.from_residual-in_err-request_causes.ensures.1 ∙ refused-by _ found; leaves = leaves-all _ _ found; lists = leaves-all _ _ found }

pub nearest_extent-found-requires : goal.nearest_extent-found-requires
nearest_extent-found-requires c =
    let a = c.args in
    can-search a.memory.now a.slot a.count a.near a.list.now (pass c.in_ok-ready.ensures.answers) c.in_ok-request_causes.ensures

pub returns-in_default : goal.returns-in_default
unfolding allocate_extent_answer allocate_extent_memory allocate_extent_list
returns-in_default c =
    let a = c.args in
    let found = by-search a.memory.now a.slot a.count a.near a.list.now (pass c.in_ok-ready.ensures.answers) c.in_ok-request_causes.ensures
    c.in_default.ensures in
    record { answers = refused-by _ found; leaves = leaves-all _ _ found; lists = leaves-all _ _ found }

pub returns-in_err-spare_causes : goal.returns-in_err-spare_causes
unfolding allocate_extent_answer allocate_extent_memory allocate_extent_list
returns-in_err-spare_causes c =
    let a = c.args in
    let found = refused a.memory.now a.slot a.count a.near a.list.now (pass c.in_ok-ready.ensures.answers) c.in_ok-request_causes.ensures
    c.in-Some.ensures c.unwrap_or-available.ensures c.others-kept.ensures c.in_err-spare_causes.ensures in
    record { answers = handed-on c.from_residual-in_err-spare_causes.ensures.1 ∙ refused-by _ found; leaves = leaves-all _ _ found; lists = leaves-all _ _ found }

pub take_extent-requires : goal.take_extent-requires
take_extent-requires c =
    let a = c.args in
    let t : AllocateExtentAccepted a.memory.now a.slot a.count a.near a.list.now =
    allocate-extent-accepted a.memory.now a.slot a.count a.near a.list.now
    (none-held a.memory.now a.slot a.count a.near a.list.now (pass c.in_ok-ready.ensures.answers) c.in_ok-request_causes.ensures
    c.in-Some.ensures c.unwrap_or-available.ensures c.others-kept.ensures c.in_ok-spare_causes.ensures) in
    let start = start-is a.memory.now a.slot a.count a.near a.list.now (pass c.in_ok-ready.ensures.answers) c.in_ok-request_causes.ensures c.in-Some.ensures in
    can-take a.memory.now a.slot a.count a.near a.list.now t start (valid-parts _ t.ready.is_valid)

pub draw-requires : goal.draw-requires
draw-requires c =
    let a = c.args in
    let t : AllocateExtentAccepted a.memory.now a.slot a.count a.near a.list.now =
    allocate-extent-accepted a.memory.now a.slot a.count a.near a.list.now
    (none-held a.memory.now a.slot a.count a.near a.list.now (pass c.in_ok-ready.ensures.answers) c.in_ok-request_causes.ensures
    c.in-Some.ensures c.unwrap_or-available.ensures c.others-kept.ensures c.in_ok-spare_causes.ensures) in
    record { few = few-at a.memory.now _ (valid-parts _ t.ready.is_valid) c.in_ok-ready.ensures.below; count_le_max_count = t.few }

pub overflow_add-start : goal.overflow_add-start
overflow_add-start c =
    let a = c.args in
    let t : AllocateExtentAccepted a.memory.now a.slot a.count a.near a.list.now =
    allocate-extent-accepted a.memory.now a.slot a.count a.near a.list.now
    (none-held a.memory.now a.slot a.count a.near a.list.now (pass c.in_ok-ready.ensures.answers) c.in_ok-request_causes.ensures
    c.in-Some.ensures c.unwrap_or-available.ensures c.others-kept.ensures c.in_ok-spare_causes.ensures) in
    let start = start-is a.memory.now a.slot a.count a.near a.list.now (pass c.in_ok-ready.ensures.answers) c.in_ok-request_causes.ensures c.in-Some.ensures in
    let parts = valid-parts _ t.ready.is_valid in
    omega (arith, within a.memory.now a.slot a.count a.near a.list.now t start parts, parts.few_blocks)

pub returns : goal.returns
unfolding allocate_extent_answer allocate_extent_memory allocate_extent_list
returns c =
    let a = c.args in
    let m = a.memory.now in
    let told = pass c.in_ok-ready.ensures.answers in
    let none-is = none-held m a.slot a.count a.near a.list.now told c.in_ok-request_causes.ensures
    c.in-Some.ensures c.unwrap_or-available.ensures c.others-kept.ensures c.in_ok-spare_causes.ensures in
    let t = allocate-extent-accepted m a.slot a.count a.near a.list.now none-is in
    let parts = valid-parts _ t.ready.is_valid in
    let start = start-is m a.slot a.count a.near a.list.now told c.in_ok-request_causes.ensures c.in-Some.ensures in
    let shape = c.in_ok-ready.ensures.shape in
    let read = slot-is _ shape told.at-is c.in_ok-ready.ensures.below in
    let taken = took-nearest m a.slot a.count a.near a.list.now t start parts _ read shape _ _ _ c.take_extent.ensures in
    record {
      answers = ap Ok (start ∙ start_first m a.slot a.count a.near a.list.now t) ∙ gives _ none-is;
      leaves =
          took m a.slot a.count _ _ _ _ told.at-is read (nearest_extent m a.count a.near) a.list.now _ _ _ taken
          (c.wrapped-memory.ensures ∙ moved-behind m a.slot a.count a.near a.list.now t start parts)
          c.draw.ensures
          (nearest-length m a.count a.near)
          ∙ leaves-new _ _ none-is;
      lists = taken.listed ∙ leaves-new _ _ none-is;
    }
