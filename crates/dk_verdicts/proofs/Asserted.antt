-- What is read of claims, and where no record reaches.
use Rattle.std.specs.Prelude.{◌≡◌, ◌<◌, ◌≤◌, ◌==◌, ◌&&◌, ◌++◌, ℕ, zero, suc, Bool, true, false, IsTrue, All, List, [], ◌∷◌, bytes_eq, filter, flat_map, length, map, nat_lt, position, slice_get, option_map, if◌then◌else◌, Option, Some, None, refl}
use Rattle.std.proofs.Common.{◌∙◌, ap, arith, length-append, subst, sym}
use Rattle.std.proofs.lemmas.Bool.{and_parts, eqb-true, ltb-false, ltb-true, ne_eqb}
use Rattle.std.proofs.lemmas.List.{length-map, map-append}
use Rattle.std.proofs.lemmas.List.Elements.{All-head, All-tail}
use Rattle.dk_base.specs.declared.kinds.VarInfo.{VarInfo}
use Rattle.dk_base.specs.declared.values.Value.{Value}
use Rattle.dk_blocks.proofs.Growing.{same_all_vars}
use Rattle.dk_blocks.specs.Fitting.{Extends}
use Rattle.dk_derive.specs.Values.{values_by_form}
use Rattle.dk_claims.specs.declared.claims.Claim.{Claim}
use Rattle.dk_engine.proofs.Readings.{row_is}
use Rattle.dk_expr.specs.Reads.{HasNone, IsRead, told_state}
use Rattle.dk_expr.specs.declared.assertions.Assertion.{Assertion}
use Rattle.dk_instances.specs.Instances.{are_distinct}
use Rattle.dk_forms.specs.declared.states.State.{State}
use Rattle.dk_forms.specs.declared.states.State.TheVariants as state
use Rattle.dk_graph.proofs.Links.{edge-has, place-below}
use Rattle.dk_graph.proofs.Positions.{position-cons}
use Rattle.dk_graph.specs.Graphs.{depth_of, edges, edges_into}
use Rattle.dk_graph.specs.Names.{place_of}
use Rattle.dk_graph.specs.declared.nodes.Edge.{Edge}
use Rattle.dk_hierarchy.specs.Samples.{all_vars_of, mapped_sample, own_samples_of, partners_of, samples_of, samples_within}
use Rattle.dk_points.proofs.Nodes.{length-nodes}
use Rattle.dk_points.specs.Links.{nodes}
use Rattle.dk_points.specs.Table.{Point, names, name_of}
use Rattle.dk_meanings.proofs.RowLaws.{laws_of}
use Rattle.dk_template.specs.Admitted.{admits, is_written}
use Rattle.dk_template.specs.Fitting.{fits}
use Rattle.dk_template.specs.Proper.{IsProper}
use Rattle.dk_template.specs.Templates.{IsRow, form_of}
use Rattle.dk_template.specs.declared.grammar.Grammar.TheVariants as grammar
use Rattle.dk_template.specs.declared.templates.StateForm.{StateForm}
use Rattle.dk_template.specs.declared.templates.StateForm.TheVariants as form
use Rattle.dk_verdicts.proofs.Reached.{beside_only}
use Rattle.dk_verdicts.specs.Records.{Record, only, reaching, reaching_all}
use Rattle.dk_verdicts.specs.Standing.{IsOf}
use Rattle.dk_verdicts.specs.Tests.{IsTestable}
use Rattle.dk_verdicts.specs.Verdicts.{IsAsserted, IsUnknown}

-- ---- what is read
code_form : (f : StateForm) (h : ℕ) → IsProper f (state.Code h) → f ≡ form.Code
code_form form.Code h is = refl
code_form form.Texts h is = absurd is.0
code_form form.Offset h is = absurd is.0
code_form _ h is = absurd is

-- only a hash code's text doesn't tell the state
told_empty : (f : StateForm) (s : State) → IsProper f s → IsTrue (fits s) → told_state s ≡ state.Empty → f ≡ form.Code
told_empty f state.Empty proper holds e = absurd (cc holds)
told_empty f (state.Code h) proper holds e = code_form f h proper
told_empty f _ proper holds e = absurd (cc e)

told_proper : (f : StateForm) (s : State) → IsProper f state.Empty → IsProper f s → IsProper f (told_state s)
told_proper f (state.Code h) none is = go (h == 0) refl
  where
    go : (b : Bool) → (h == 0) ≡ b → IsProper f (if h == 0 then state.Code 0 else state.Empty)
    go true e = subst (IsProper f) (ap state.Code (eqb-true h 0 e) ∙ sym (ap (λ b. if b then state.Code 0 else state.Empty) e)) is
    go false e = subst (IsProper f) (sym (ap (λ b. if b then state.Code 0 else state.Empty) e)) none
told_proper f _ none is = is

module _ (infos : List VarInfo) (text : List ℕ) (a : Assertion) (is : IsRead infos text a) where
  row : IsRow a.row
  row = row_is grammar.Two a.row is.has.instance.of_grammar

  pub read_testable : IsTestable a
  read_testable = record {
    row = row;
    proper = subst (IsProper (form_of a.row)) (sym is.tells) (told_proper (form_of a.row) is.printed (laws_of a.row row).joins.empty_proper is.has.proper);
    code = λ e. told_empty (form_of a.row) is.printed is.has.proper is.has.holds (sym is.tells ∙ e);
  }

  pub read_admitted : IsTrue (admits a.row infos a.vars)
  read_admitted = (and_parts (admits a.row infos a.vars) (is_written a.row a.vars && are_distinct a.vars) is.has.instance.asked).0

-- ---- places of names
place_front : (all more : List (List ℕ)) (name : List ℕ) (q : ℕ) → place_of all name ≡ Some q → place_of (all ++ more) name ≡ Some q
unfolding place_of
place_front [] more name q h = absurd (cc h)
place_front (x ∷ all) more name q h =
    position-cons (bytes_eq name) x (all ++ more)
    ∙ go (bytes_eq name x) (position (bytes_eq name) all) (position (bytes_eq name) (all ++ more)) (place_front all more name) (sym (position-cons (bytes_eq name) x all) ∙ h)
  where
    go : (b : Bool) (o o' : Option ℕ) → ((n : ℕ) → o ≡ Some n → o' ≡ Some n) → (if b then Some 0 else option_map suc o) ≡ Some q → (if b then Some 0 else option_map suc o') ≡ Some q
    go true o o' rest h = h
    go false None o' rest h = absurd (cc h)
    go false (Some n) o' rest h = ap (option_map suc) (rest n refl) ∙ h

place_back : (all more : List (List ℕ)) (name : List ℕ) (q : ℕ) → q < length all → place_of (all ++ more) name ≡ Some q → place_of all name ≡ Some q
unfolding place_of
place_back [] more name q within h = absurd (omega (arith, within))
place_back (x ∷ all) more name q within h =
    position-cons (bytes_eq name) x all
    ∙ go (bytes_eq name x) (position (bytes_eq name) all) (position (bytes_eq name) (all ++ more)) (place_back all more name) (sym (position-cons (bytes_eq name) x (all ++ more)) ∙ h)
  where
    go : (b : Bool) (o o' : Option ℕ) → ((n : ℕ) → n < length all → o' ≡ Some n → o ≡ Some n) → (if b then Some 0 else option_map suc o') ≡ Some q → (if b then Some 0 else option_map suc o) ≡ Some q
    go true o o' rest h = h
    go false o None rest h = absurd (cc h)
    go false o (Some n) rest h =
        let e : suc n ≡ q = cc h in
        ap (option_map suc) (rest n (omega (arith, e, within)) refl) ∙ h

-- ---- a table with more points
module _ (ps ps' : List Point) (extends : Extends ps ps') (claim : Claim) where
  names_are : names ps' ≡ names ps ++ names extends.0
  names_are = ap names extends.1 ∙ map-append name_of ps extends.0

  named_within : (q : ℕ) → place_of (names ps) claim.point ≡ Some q → q < length ps
  named_within q named = subst (λ n. q < n) (length-map ps name_of) (place-below (names ps) claim.point q named)

  pub still_asserted : (q : ℕ) (a : Assertion) → IsAsserted ps claim q a → IsAsserted ps' claim q a
  still_asserted q a is = record {
    named = ap (λ (all : List (List ℕ)). place_of all claim.point) names_are ∙ place_front (names ps) (names extends.0) claim.point q is.named;
    is_read = subst (λ vars. IsRead vars claim.text a) (sym (same_all_vars ps ps' q extends (named_within q is.named))) is.is_read;
  }

  -- a claim that isn't known stays so, if the new points don't have it
  pub still_unknown : IsUnknown ps claim → ((q : ℕ) → place_of (names ps') claim.point ≡ Some q → length ps ≤ q → HasNone (all_vars_of ps' q) claim.text) → IsUnknown ps' claim
  still_unknown unknown new q named = go (nat_lt q (length ps)) refl
    where
      go : (b : Bool) → nat_lt q (length ps) ≡ b → HasNone (all_vars_of ps' q) claim.text
      go true e =
          let within : q < length ps = ltb-true q (length ps) e in
          subst (λ vars. HasNone vars claim.text) (sym (same_all_vars ps ps' q extends within))
          (unknown q (place_back (names ps) (names extends.0) claim.point q (subst (λ n. q < n) (sym (length-map ps name_of)) within)
          (sym (ap (λ (all : List (List ℕ)). place_of all claim.point) names_are) ∙ named)))
      go false e = let past : length ps ≤ q = ltb-false q (length ps) e in new q named past

-- ---- points that no record reaches
no_edges : (es : List Edge) (n q : ℕ) → n ≤ q → ((k : ℕ) (e : Edge) → slice_get es k ≡ Some e → e.parent.0 < n) → filter (λ e. e.parent.0 == q) es ≡ []
no_edges [] n q past below = refl
no_edges (e ∷ es) n q past below =
    let other : (e.parent.0 == q) ≡ false = ne_eqb e.parent.0 q (λ same. let less = below zero e refl in omega (arith, less, same, past)) in
    rw other (no_edges es n q past (λ k d at. below (suc k) d at))

none_into : (ps : List Point) (q : ℕ) → length ps ≤ q → edges_into (nodes ps) q ≡ []
unfolding edges_into
none_into ps q past =
    no_edges (edges (nodes ps)) (length (nodes ps)) q (let n = length-nodes ps in omega (arith, n, past)) (λ k e at. (edge-has (nodes ps) e (k, at)).1)

none_own : (ps : List Point) (p q : ℕ) (values : List Value) → p < length ps → length ps ≤ q → own_samples_of ps (only p values) q ≡ []
none_own ps p q values there past = ap (map (values_by_form (all_vars_of ps q))) (beside_only p q values (λ e. absurd (omega (arith, e, there, past))))

none_within : (ps : List Point) (p q n : ℕ) (values : List Value) → p < length ps → length ps ≤ q → samples_within n ps (only p values) q ≡ []
none_within ps p q zero values there past = none_own ps p q values there past
none_within ps p q (suc n) values there past =
    ap (λ (own : List (List Value)). own ++ flat_map (λ e. map (mapped_sample (partners_of ps e)) (samples_within n ps (only p values) e.child.0)) (edges_into (nodes ps) q)) (none_own ps p q values there past)
    ∙ ap (λ (es : List Edge). flat_map (λ e. map (mapped_sample (partners_of ps e)) (samples_within n ps (only p values) e.child.0)) es) (none_into ps q past)

-- a point that a record's table doesn't have
pub none_reaching : (q : ℕ) (r : Record) → r.point < length r.table → length r.table ≤ q → reaching q r ≡ []
unfolding samples_of
none_reaching q r there past = none_within r.table r.point q (depth_of (nodes r.table) q) r.values there past

pub none_reach : (ps : List Point) (q : ℕ) (rs : List Record) → length ps ≤ q → All (IsOf ps) rs → reaching_all q rs ≡ []
none_reach ps q [] past are = refl
none_reach ps q (r ∷ rs) past are =
    let is = All-head (IsOf ps) r rs are in
    let more = length-append r.table is.front.0 in
    let long = ap length is.front.1 in
    ap (λ (s : List (List Value)). s ++ reaching_all q rs) (none_reaching q r is.within (omega (arith, more, long, past)))
    ∙ none_reach ps q rs past (All-tail (IsOf ps) r rs are)
