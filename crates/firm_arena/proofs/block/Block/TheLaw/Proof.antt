-- A `&` to a block reaches each value in it.
use mathlib.Core.List.{[], ◌++◌}
use base.Fml.{Incl-trans}
use contract.BorrowLft.{meet_⊑_left}
use denote.RattleType.{RattleType}
use denote.Param.Laws.{Laws}
use denote.Param.Shared.{copy_shared}
use denote.Struct.Field.{RawPtr-field, u32-field}
use denote.Struct.Laws.{RawPtr-copy, u32-copy}
use denote.Struct.Lending.{of_Lends}
use Rattle.firm_arena.specs.contracts.block.Block.TheInside as block
use Rattle.firm_arena.proofs.block.Block.TheLaw.Statement.{statement}
use Rattle.firm_arena.proofs.Reach.{block_copied, block_lent}

pub shares : (R : RattleType) (laws : Laws R) → statement R laws
shares R laws =
    of_Lends (block.struct R) (block.the_codes R.Denot R.coded) (block.the_heap R) (block.the_lent R)
    (λ b p. block_copied R laws.shr_laws b.start b.capacity b.row)
    (copy_shared RawPtr-field RawPtr-copy, (copy_shared u32-field u32-copy, tt))
    (λ M 𝓤 𝓛 b p. block_lent 𝓛 (block.the_row R).lives R laws (Incl-trans (meet_⊑_left (R.lives ++ []) _)
    (meet_⊑_left R.lives []))
    b.start b.capacity b.row)
