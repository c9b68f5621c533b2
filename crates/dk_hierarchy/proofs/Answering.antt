-- What answers through ways need of the engine that a way leads to.
use Rattle.std.specs.Prelude.{◌≡◌, ◌<◌, ◌≤◌, ◌+◌, ◌*◌, ℕ, true, List, [], ◌∷◌, drop, length, Option, Some, None}
use Rattle.std.specs.Option.{option_map_or}
use Rattle.std.proofs.Common.{◌∙◌, ap, arith, get_or, subst, sym}
use Rattle.std.proofs.lemmas.List.{at_drop_more}
use Rattle.std.proofs.lemmas.List.Elements.{All-cons, All-nil}
use Rattle.dk_base.specs.declared.kinds.VarId.{VarId}
use Rattle.dk_engine.proofs.Memories.{texts_want}
use Rattle.dk_engine.specs.Reading.{count_read, state_read}
use Rattle.dk_engine.specs.Reading.Levels.{Whole}
use Rattle.dk_forms.specs.declared.states.State.{State}
use Rattle.dk_forms.specs.declared.states.State.TheVariants.{Empty}
use Rattle.dk_template.proofs.ProperStates.{proper_laws}
use Rattle.dk_template.specs.Admitted.{admits}
use Rattle.dk_template.specs.Joins.{joined}
use Rattle.dk_template.specs.Premises.{AreThere, MayWantMemory}
use Rattle.dk_template.specs.Proper.{IsProper}
use Rattle.dk_template.specs.Templates.{IsRow, IsRowOf, form_of}
use Rattle.dk_template.specs.declared.grammar.RowId.{RowId}
use Rattle.dk_template.specs.declared.templates.StateForm.TheVariants as form
use Rattle.dk_hierarchy.proofs.Partners.{partner_there, partners_admitted, partners_long, partners_there}
use Rattle.dk_hierarchy.specs.Edges.{partner_at, partners_at}
use Rattle.dk_hierarchy.specs.Merging.{IsWay, Joint, agree_through, count_through, engine_at, partners_agree, state_through, states_joined}
use Rattle.dk_hierarchy.specs.declared.way.Way.{Way}

-- ---- states
-- the first way of those that are left is joined
pub joined_more : (joint : Joint) (row : RowId) (vars : List VarId) (state : State) (ways : List Way) (i : ℕ) (d : Way) → i < length ways
    → states_joined joint row vars state (drop i ways) ≡ states_joined joint row vars (joined (form_of row) state (state_through joint row vars (get_or ways i d))) (drop (i + 1) ways)
joined_more joint row vars state ways i d within = at_drop_more (states_joined joint row vars state) ways i d within

pub empty_is_proper : (row : RowId) → IsProper (form_of row) Empty
empty_is_proper row = (proper_laws (form_of row)).empty_proper

-- joins of texts want memory where the row's answers may
pub texts_may_want : (row : RowId) → IsRow row → form_of row ≡ form.Texts → MayWantMemory row
texts_may_want row is e = texts_want row is e

-- ---- one way and its engine
module _ (joint : Joint) (way : Way) (is : IsWay joint way) (engine : Whole) (at : engine ≡ engine_at joint way) where
  pub row_there : (row : RowId) → IsRowOf joint.here.grammar row → IsRowOf engine.grammar row
  row_there row of = subst (λ g. IsRowOf g row) (sym (ap (λ (e : Whole). e.grammar) at ∙ is.grammar)) of

  -- of variables that all have partners
  module _ (vars there : List VarId) (partners : partners_at way.partners vars ≡ Some there) where
    pub admitted_there : (row : RowId) → admits row joint.here.infos vars ≡ true → admits row engine.infos there ≡ true
    admitted_there row a =
        subst (λ (e : Whole). admits row e.infos there ≡ true) (sym at) (partners_admitted joint.here.infos (engine_at joint way).infos way.partners is.partners row vars there partners a)

    pub are_there : AreThere engine.infos there
    are_there = subst (λ (e : Whole). AreThere e.infos there) (sym at) (partners_there joint.here.infos (engine_at joint way).infos way.partners is.partners vars there partners)

    pub few_there : length vars ≤ 3 → length there ≤ 3
    few_there few = let long = partners_long joint.here.infos (engine_at joint way).infos way.partners is.partners vars there partners in omega (arith, few, long)

    pub state_is : (row : RowId) → state_read engine.kept row there ≡ state_through joint row vars way
    state_is row = ap (λ (e : Whole). state_read e.kept row there) at ∙ ap (λ o. option_map_or (state_read (engine_at joint way).kept row) o Empty) (sym partners)

    pub count_is : count_read engine.kept there * way.paths ≡ count_through joint vars way
    count_is = ap (λ (e : Whole). count_read e.kept there * way.paths) at ∙ ap (λ o. option_map_or (count_read (engine_at joint way).kept) o 0 * way.paths) (sym partners)

  -- of one variable that has a partner
  pub one_there : (v w : VarId) → partner_at way.partners v ≡ Some w → w.0 < length engine.infos
  one_there v w e = subst (λ (x : Whole). w.0 < length x.infos) (sym at) (partner_there joint.here.infos (engine_at joint way).infos way.partners is.partners v w e)

  pub all_there : (v w : VarId) → partner_at way.partners v ≡ Some w → AreThere engine.infos (w ∷ [])
  all_there v w e = All-cons (λ (u : VarId). u.0 < length engine.infos) w [] (one_there v w e) (All-nil (λ (u : VarId). u.0 < length engine.infos))

  pub agree_is : (v w : VarId) (first second : Option VarId) → first ≡ partner_at way.partners v → second ≡ partner_at way.partners w → partners_agree engine.kept first second ≡ agree_through joint v w way
  agree_is v w first second e f =
      ap (λ (x : Whole). partners_agree x.kept first second) at ∙ (ap (λ o. partners_agree (engine_at joint way).kept o second) e ∙ ap (partners_agree (engine_at joint way).kept (partner_at way.partners v)) f)

-- where a variable has no partner
pub no_state : (joint : Joint) (way : Way) (vars : List VarId) → partners_at way.partners vars ≡ None → (row : RowId) → Empty ≡ state_through joint row vars way
no_state joint way vars none row = ap (λ o. option_map_or (state_read (engine_at joint way).kept row) o Empty) (sym none)

pub no_count : (joint : Joint) (way : Way) (vars : List VarId) → partners_at way.partners vars ≡ None → 0 ≡ count_through joint vars way
no_count joint way vars none = nothing way.paths ∙ ap (λ o. option_map_or (count_read (engine_at joint way).kept) o 0 * way.paths) (sym none)
  where
    nothing : (n : ℕ) → 0 ≡ 0 * n
    nothing n = omega arith
