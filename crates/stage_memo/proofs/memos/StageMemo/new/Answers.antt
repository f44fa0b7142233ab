use Rattle.std.proofs.Common.{refl, arith, rules}
use Rattle.std.proofs.lemmas.List.Elements.{All-replicate}
use Rattle.sheet.specs.Views.{net}
use Rattle.stage_memo.specs.Known.{Right}
use Rattle.stage_memo.specs.Vertices.{vertex_of}
use Rattle.stage_memo.proofs.Made.{made}
use Rattle.stage_memo.proofs.memos.StageMemo.new.Goals as goal

pub invariant_of-result : goal.invariant_of-result
invariant_of-result c =
    let n = net c.args.sheet.now in
    record {
      network = λ v d near. made _ (vertex_of n) _ (λ u y q k. search rules) c.from_fn.result 0 64 _ refl c.from_fn.ensures.items.each v d (omega arith) (omega arith);
      right = All-replicate (Right n) 64 c.of_none.result (c.of_none.ensures.right n);
    }
