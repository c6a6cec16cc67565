-- A block may move to another thread where its values may.
use denote.RattleType.{RattleType}
use denote.Param.Send.{IsSend, AllSend, view_send, owning_send, struct_send, sendable}
use denote.Struct.Owning.{shape, fields, to}
use denote.Struct.Struct.{exits_of}
use Rattle.std_alloc.proofs.SendSync.{quiet}
use Rattle.firm_arena.specs.contracts.block.Block as block
use Rattle.firm_arena.specs.contracts.block.Block.TheInside as inside
use Rattle.firm_arena.proofs.Reach.{block_moves}

pub send : (R : RattleType) → IsSend R → IsSend (block.the_row R)
send R crosses =
    let owner = inside.the_type R in
    let all : AllSend (fields owner) = (search sendable, (search sendable, tt)) in
    view_send (inside.the_row R) _ _ (block.the_view R) (block.the_invariant R)
    (owning_send owner all (λ b. block_moves R crosses b.start b.capacity b.row)
    (λ key. quiet (to owner) (exits_of key (fields owner)) ((struct_send (shape owner) all).leaving key)))
