-- What is read with one sample more.
use Rattle.std.proofs.Common.{ap, ◌∙◌, sym}
use Rattle.dk_instances.proofs.Pushing.{fit_push}
use Rattle.dk_engine.proofs.Readings.{reading_is_fit, row_is}
use Rattle.dk_engine.specs.Feeding.{read_after, with_sample}
use Rattle.dk_engine.specs.Laws.{ReadAfterIsFit}

pub read_after_is_fit : ReadAfterIsFit
unfolding read_after
read_after_is_fit g infos point samples sampled kept is sample row of vars admitted =
    ap (with_sample row vars sample) (reading_is_fit g infos point samples sampled kept is row of vars admitted) ∙ sym (fit_push row (row_is g row of) vars samples sample)
