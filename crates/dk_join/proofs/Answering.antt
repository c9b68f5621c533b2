-- The answers of two engines together are those of both lists.
use Rattle.std.specs.Prelude.{◌≡◌, ◌+◌, List}
use Rattle.std.proofs.Common.{ap, ◌∙◌, sym}
use Rattle.std.proofs.lemmas.Bool.{and_from, and_parts}
use Rattle.std.proofs.lemmas.List.Elements.{All-append}
use Rattle.dk_base.specs.declared.values.Value.{Value}
use Rattle.dk_engine.proofs.Memories.{texts_want}
use Rattle.dk_engine.proofs.Readings.{agree_read_is_agreement, count_read_is_count, reading_is_fit, row_is}
use Rattle.dk_engine.specs.Reading.{agree_read, count_read, state_read}
use Rattle.dk_instances.proofs.Fitting.{count_of_both, fit_of_both}
use Rattle.dk_instances.specs.Fits.{fit}
use Rattle.dk_presence.specs.Patterns.{capped, count_of}
use Rattle.dk_samples.specs.Samples.{value_in}
use Rattle.dk_template.specs.Joins.{joined}
use Rattle.dk_template.specs.Premises.{MayWantMemory}
use Rattle.dk_template.specs.Templates.{IsRow, form_of}
use Rattle.dk_template.specs.declared.grammar.RowId.{RowId}
use Rattle.dk_template.specs.declared.templates.StateForm.TheVariants as form
use Rattle.dk_join.proofs.Lists.{all_parts}
use Rattle.dk_join.specs.Joining.{read_joined}
use Rattle.dk_join.specs.Laws.{AgreeJoinedIsAgreement, CountJoinedIsCount, ReadJoinedIsFit}

pub read_joined_is_fit : ReadJoinedIsFit
unfolding read_joined
read_joined_is_fit g infos point samples others first second are row of vars admitted =
    ap (λ s. joined (form_of row) s (state_read second row vars)) (reading_is_fit g infos point samples are.first_samples first are.first_kept row of vars admitted)
    ∙ (ap (joined (form_of row) (fit row vars samples)) (reading_is_fit g infos point others are.second_samples second are.second_kept row of vars admitted)
    ∙ sym (fit_of_both row (row_is g row of) vars samples others))

pub count_joined_is_count : CountJoinedIsCount
count_joined_is_count g infos point samples others first second are vars there =
    ap (λ n. capped (n + count_read second vars)) (count_read_is_count g infos point samples are.first_samples first are.first_kept vars there)
    ∙ (ap (λ n. capped (count_of vars samples + n)) (count_read_is_count g infos point others are.second_samples second are.second_kept vars there)
    ∙ sym (count_of_both vars samples others))

pub agree_joined_is_agreement : AgreeJoinedIsAgreement
agree_joined_is_agreement g infos point samples others first second are v w lv lw =
    let one = agree_read_is_agreement g infos point samples are.first_samples first are.first_kept v w lv lw in
    let other = agree_read_is_agreement g infos point others are.second_samples second are.second_kept v w lv lw in (
      λ h.
          let both = and_parts (agree_read first v w) (agree_read second v w) h in
          let a = one.0 both.0 in
          let b = other.0 both.1 in
          (a.0, All-append (λ (s : List Value). value_in s v ≡ value_in s w) samples others a.1 b.1),
      λ h.
          let parts = all_parts (λ (s : List Value). value_in s v ≡ value_in s w) samples others h.1 in
          and_from (agree_read first v w) (agree_read second v w) (one.1 (h.0, parts.0)) (other.1 (h.0, parts.1)),
    )

-- a join of texts may want memory
pub texts_may_want : (row : RowId) → IsRow row → form_of row ≡ form.Texts → MayWantMemory row
texts_may_want row is e = texts_want row is e
