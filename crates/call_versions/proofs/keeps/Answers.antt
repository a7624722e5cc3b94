-- `keeps` asks for both. Assumes nothing.
use Rattle.base.specs.Basics.{ap₂, Bool, ◌&&◌}
use Rattle.conversions.specs.Conversion.{kept}
use Rattle.call_versions.proofs.keeps.Goals as goal

pub returns : goal.returns
unfolding kept
returns c = ap₂ (λ (x y : Bool). x && y) c.tariffs_kept-tariffs.ensures c.managers_kept-managers.ensures
