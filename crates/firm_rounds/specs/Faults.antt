-- The fault of a queue that is not closed, or was not empty.
use Rattle.std.specs.Prelude.{◌≡◌, ℕ, ◌<◌, ◌⊎◌, List, map, length}
use Rattle.firm_rounds.specs.Passes.{QueueIs, PutIs, PopIs, spent_put, spent_pop}
use Rattle.firm_rounds.specs.Closed.{AsOften}
use Rattle.firm_rounds.specs.declared.queue.QueueFault.{QueueFault}
use Rattle.firm_rounds.specs.declared.queue.QueueFault.TheVariants.{Missing, Left}

abbrev pub IsFault : QueueIs → List PutIs → List PopIs → QueueFault → Type 0
IsFault queue puts pops (Missing q ps gs) =
    (q ≡ queue) × (ps.items ≡ puts) × (gs.items ≡ pops) × ((length puts < queue.puts) ⊎ (length pops < queue.pops))
IsFault queue puts pops (Left ps gs jobs) =
    (ps.items ≡ map spent_put puts) × (gs.items ≡ map spent_pop pops) × (0 < length jobs.items)
    × AsOften puts pops jobs.items
