-- A `&` to a block may move to another thread where one to its values may.
use denote.RattleType.{RattleType}
use denote.Param.Send.{IsSync, view_sync, struct_sync, sendable}
use denote.Struct.Owning.{shape, to}
use Rattle.firm_arena.specs.contracts.block.Block as block
use Rattle.firm_arena.specs.contracts.block.Block.TheInside as inside
use Rattle.firm_arena.proofs.Reach.{block_common}

pub sync : (R : RattleType) → IsSync R → IsSync (block.the_row R)
sync R crosses =
    let owner = inside.the_type R in
    view_sync (inside.the_row R) _ _ (block.the_view R) (block.the_invariant R)
    (record {
      shared =
          λ b memory byte κ. (
            (struct_sync (shape owner) (search sendable, (search sendable, tt))).shared (to owner b)
                memory byte κ,
            block_common R crosses b.start b.capacity b.row κ,
          );
    })
