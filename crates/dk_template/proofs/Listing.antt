-- A row's state of one tuple more.
use Rattle.std.specs.Prelude.{◌≡◌, ℕ, ◌+◌, ◌<◌, List, [], ◌∷◌, length, take, All}
use Rattle.std.specs.Borrow.{Bor}
use Rattle.std.proofs.Common.{sym, ap, ◌∙◌, subst, arith, get_or}
use Rattle.std.proofs.lemmas.List.{take_more, map-append}
use Rattle.std.proofs.lemmas.List.Elements.{All-cons}
use Rattle.dk_base.specs.Values.{values_of}
use Rattle.dk_base.specs.declared.kinds.Kind.{Kind}
use Rattle.dk_base.specs.declared.values.Value.{Value}
use Rattle.dk_base.specs.declared.values.View.{View}
use Rattle.dk_forms.specs.declared.states.State.{State}
use Rattle.dk_template.specs.Joins.{joined}
use Rattle.dk_template.specs.Laws.{tuples_of}
use Rattle.dk_template.specs.Proper.{IsProper}
use Rattle.dk_template.specs.Rows.{IsTuple, RowLaws}
use Rattle.dk_template.specs.declared.templates.StateForm.{StateForm}

module _ {kinds : List Kind} {form : StateForm} {state_of : List (List Value) → State} (laws : RowLaws kinds form state_of) where
  -- the state of one tuple is proper
  pub point_proper : (tuple : List Value) → IsTuple kinds tuple → IsProper form (state_of (tuple ∷ []))
  point_proper tuple p = laws.proper (tuple ∷ []) (All-cons (IsTuple kinds) tuple [] p (λ i d h. absurd (omega (arith, h))))

  -- with the tuple at i, whatever is read past the end
  module _ (ts : List (Bor (List View))) (all : All (λ (t : Bor (List View)). IsTuple kinds (values_of t.now)) ts) (i : ℕ) (d : Bor (List View)) (within : i < length ts)
      (state one next : State) (so_far : state ≡ state_of (tuples_of (take i ts))) (one_is : one ≡ state_of (values_of (get_or ts i d).now ∷ [])) (next_is : next ≡ joined form state one) where
    pub listed_more : next ≡ state_of (tuples_of (take (i + 1) ts))
    listed_more =
        next_is ∙ ap (λ s. joined form s one) so_far ∙ ap (joined form (state_of (tuples_of (take i ts)))) one_is
        ∙ sym (laws.both (tuples_of (take i ts)) (values_of (get_or ts i d).now ∷ []))
        ∙ ap state_of (sym (map-append (λ (u : Bor (List View)). values_of u.now) (take i ts) (get_or ts i d ∷ [])) ∙ ap tuples_of (sym (take_more ts i d within)))

    pub proper_more : IsProper form state → IsProper form next
    proper_more p = subst (IsProper form) (sym (next_is ∙ ap (joined form state) one_is)) (laws.joins.closed state _ p (point_proper (values_of (get_or ts i d).now) (all i d within)))
