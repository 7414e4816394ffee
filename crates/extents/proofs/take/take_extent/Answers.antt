-- With the next block put and listed, one more is taken; in the end all are.
use native.Mathlib.Omega.{arith}
use Rattle.std.proofs.Common.{rules}
use Rattle.extents.proofs.Laws.Take.{taken_none, taken_more, taken-all}
use Rattle.extents.proofs.take.take_extent.Goals as goal

pub loop-n-init : goal.loop-n-init
loop-n-init c = λ m lies. taken_none c.args.start c.args.count lies.volume lies.is_com lies.is_tam lies.end_of_com lies.end_of_tam

pub loop-n-preserved : goal.loop-n-preserved
loop-n-preserved c =
    λ m lies.
    let more = taken_more c.args.start c.args.count lies.volume lies.within (c.loop-n.invariant m lies) (omega arith) (omega arith) in
    rw (c.put.ensures, c.put-in-loop-n.ensures) (search rules)

pub returns : goal.returns
returns c = λ m lies. taken-all c.args.start c.args.count lies.volume lies.within (c.loop-n.invariant m lies) (omega arith)
