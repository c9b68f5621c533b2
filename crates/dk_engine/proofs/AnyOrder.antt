-- The order of samples doesn't matter.
use Rattle.std.specs.Prelude.{◌≡◌, ℕ, Contains, List, if◌then◌else◌}
use Rattle.std.specs.List.Sorted.{IsPermutation}
use Rattle.std.proofs.Common.{ap, ◌∙◌, arith, sym}
use Rattle.std.proofs.lemmas.List.Sorted.{All-permutation, Contains-permutation, IsPermutation-map, IsPermutation-sym, length_permutation, sum_by-IsPermutation}
use Rattle.dk_base.specs.declared.kinds.Kind.{Kind}
use Rattle.dk_base.specs.declared.kinds.VarId.{VarId}
use Rattle.dk_base.specs.declared.kinds.VarInfo.{VarInfo}
use Rattle.dk_base.specs.declared.values.Value.{Value}
use Rattle.dk_classes.proofs.Firsts.{first_same}
use Rattle.dk_classes.specs.Classes.{InClass, var_kinds}
use Rattle.dk_classes.specs.Leaders.{leader_at, own_leaders, var}
use Rattle.dk_constants.specs.Constants.{HasAlways}
use Rattle.dk_constants.specs.Known.{Entries}
use Rattle.dk_forms.specs.Laws.{SameSet}
use Rattle.dk_instances.proofs.Fitting.{fit_of_set}
use Rattle.dk_instances.proofs.Members.{contained, is_in}
use Rattle.dk_instances.specs.Fits.{fit}
use Rattle.dk_presence.specs.Patterns.{capped, patterns_of, present_in, same_vars}
use Rattle.dk_samples.specs.Samples.{value_in}
use Rattle.dk_suppress.proofs.Asking.{suppressed_alike}
use Rattle.dk_suppress.specs.Soundness.{fit_of}
use Rattle.dk_template.specs.Templates.{IsRow}
use Rattle.dk_template.specs.declared.grammar.Grammar.{Grammar}
use Rattle.dk_template.specs.declared.grammar.RowId.{RowId}
use Rattle.dk_engine.proofs.Readings.{row_is}
use Rattle.dk_engine.specs.Exact.{IsSlot}
use Rattle.dk_engine.specs.Laws.{OrderDoesNotMatter}
use Rattle.dk_engine.specs.declared.slots.slot.Slot.{Slot}

-- ---- what is kept of samples is kept of them in another order
module _ (samples others : List (List Value)) (same : IsPermutation samples others) where
  same_set : SameSet samples others
  same_set = record {
    to = λ x h. let c = Contains-permutation samples others x same (contained x samples h) in is_in x others c.0 c.1 c.2;
    from = λ x h. let c = Contains-permutation others samples x (IsPermutation-sym samples others same) (contained x others h) in is_in x samples c.0 c.1 c.2;
  }

  pub fit_moved : (row : RowId) → IsRow row → (vars : List VarId) → fit row vars samples ≡ fit row vars others
  fit_moved row is vars = fit_of_set row is vars samples others same_set

  class_moved : (kinds : List Kind) (v w : ℕ) → InClass kinds samples v w → InClass kinds others v w
  class_moved kinds v w c = record { within = c.within; kind = c.kind; agree = All-permutation (λ s. value_in s (var w) ≡ value_in s (var v)) samples others same c.agree }

  always_moved : (v : VarId) (x : Value) → HasAlways samples v x → HasAlways others v x
  always_moved v x has = record { some = (let long = length_permutation samples others same in let some = has.some in omega arith); each = All-permutation (λ s. value_in s v ≡ x) samples others same has.each }

  slot_moved : (g : Grammar) (infos : List VarInfo) (leaders : List VarId) (known : Entries) (slot : Slot) → IsSlot g infos samples leaders known slot → IsSlot g infos others leaders known slot
  slot_moved g infos leaders known slot is =
      let row = slot.row in
      let vars = slot.leaders in
      let suppressed = suppressed_alike g infos (Contains (own_leaders leaders)) (fit_of samples) (fit_of others) row (λ r of below vs a all. fit_moved r (row_is g r of) vs) vars is.over.admitted is.over.lead in
      record {
        some = (let some = is.some in let long = length_permutation samples others same in omega arith);
        over = is.over;
        written = is.written;
        varies = is.varies;
        state = is.state ∙ fit_moved row (row_is g row is.over.of_grammar) vars;
        unbroken = is.unbroken;
        unsuppressed = sym suppressed ∙ is.unsuppressed;
      }

pub order_does_not_matter : OrderDoesNotMatter
order_does_not_matter g infos samples others same kept is =
    let long = length_permutation samples others same in
    let back = IsPermutation-sym samples others same in
    let own = own_leaders kept.leaders in
    record {
      number = is.number ∙ ap capped (sym long);
      leaders = record {
        long = is.leaders.long;
        each = λ v l. first_same (InClass (var_kinds infos) samples v) (InClass (var_kinds infos) others v) (leader_at kept.leaders v)
            (λ w c. class_moved samples others same (var_kinds infos) v w c) (λ w c. class_moved others samples back (var_kinds infos) v w c) (is.leaders.each v l);
      };
      known = record {
        ascend = is.known.ascend;
        each = λ v x. (
          λ e. let h = (is.known.each v x).0 e in (h.0, always_moved samples others same v x h.1),
          λ h. (is.known.each v x).1 (h.0, always_moved others samples back v x h.1),
        );
      };
      held = record {
        form = is.held.form;
        counted = λ p. is.held.counted p ∙ ap capped (sym (sum_by-IsPermutation (λ q. if same_vars p q then 1 else 0) (patterns_of own samples) (patterns_of own others) (IsPermutation-map (present_in own) samples others same)));
      };
      slots = record {
        ascend = is.slots.ascend;
        each = λ s. (
          λ c. slot_moved samples others same g infos kept.leaders kept.known s ((is.slots.each s).0 c),
          λ o. (is.slots.each s).1 (slot_moved others samples back g infos kept.leaders kept.known s o),
        );
      };
    }
