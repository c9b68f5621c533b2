use Rattle.std.proofs.Common.{◌∙◌, sym}
use Rattle.std.proofs.lemmas.List.Folds.{list_all-map}
use Rattle.dk_base.specs.Values.Items.{is_text}
use Rattle.dk_write.proofs.values.is_of_kind.Goals as goal

pub returns-in-StrSeq-StrSeq : goal.returns-in-StrSeq-StrSeq
returns-in-StrSeq-StrSeq c =
    rw (c.in-StrSeq-StrSeq.is-0, c.in-StrSeq-StrSeq.is-1) (c.are_texts.ensures ∙ sym (list_all-map is_text (λ t. t.now) c.in-StrSeq-StrSeq.texts.now))
