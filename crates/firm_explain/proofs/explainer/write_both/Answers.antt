use Rattle.std.proofs.KnownBytes.{Appends-trans}
use Rattle.firm_explain.proofs.explainer.write_both.Goals as goal

-- the second text follows the first
pub returns : goal.returns
returns g c =
    (c.args.second.now, Appends-trans _ _ _ _ _ c.in_ok-write_all.ensures.ok c.in_ok-write_all-2.ensures.ok)
