use Rattle.dk_state.proofs.CompactParts.{kept_exact}
use Rattle.dk_state.proofs.laws.compact_form_is_kept.Goals as goal

pub returns : goal.returns
returns c = kept_exact
