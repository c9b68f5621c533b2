-- The first instance that has a text.
use Rattle.std.specs.Prelude.{◌≡◌, ◌==◌, ◌+◌, ◌<◌, ◌≤◌, ◌^◌, ◌⊎◌, ◌++◌, ℕ, Bool, IfOk, IfSome, IsSomeAnd, IsTrue, true, false, Contains, List, [], ◌∷◌, Option, None, Some, Result, codes, length, nat_lt, if◌then◌else◌, refl}
use Rattle.std.proofs.Common.{◌∙◌, ap, arith, get_or, inl, inr, subst, sym}
use Rattle.std.proofs.lemmas.Bool.{and_parts, cases_lt, false≢true}
use Rattle.std.specs.List.{AllWithin}
use Rattle.std.proofs.lemmas.List.{get_or-map}
use Rattle.std.proofs.lemmas.List.Elements.{Contains-push, AllWithin-more, AllWithin-none, All-contains, All-from_all_within, at_read}
use Rattle.std.proofs.lemmas.Result.{IfOk-weaker}
use Rattle.dk_base.specs.declared.kinds.VarId.{VarId}
use Rattle.dk_base.specs.declared.kinds.VarInfo.{VarInfo}
use Rattle.dk_engine.proofs.SlotPlaces.{precedes_both, precedes_true, true_precedes}
use Rattle.dk_engine.specs.Sweeps.Ordering.{precedes}
use Rattle.dk_filters.proofs.Asked.{admitted-there}
use Rattle.dk_filters.specs.Facts.{info_at}
use Rattle.dk_instances.specs.Instances.{ComesBefore, Precedes}
use Rattle.dk_forms.specs.declared.states.State.{State}
use Rattle.dk_forms.specs.declared.states.State.TheVariants as state
use Rattle.dk_graph.specs.Notes.{noted_under}
use Rattle.dk_print.specs.Parts.{Part, null_or, name_at, part_text, text_by}
use Rattle.dk_print.specs.Texts.{var_names, parts_of_row, row_text}
use Rattle.dk_template.specs.Admitted.{admits}
use Rattle.dk_template.specs.Fitting.{fits}
use Rattle.dk_template.specs.Proper.{IsProper}
use Rattle.dk_template.specs.Templates.{arity_of, form_of}
use Rattle.dk_template.specs.declared.grammar.RowId.{RowId}
use Rattle.dk_template.specs.declared.templates.StateForm.{StateForm}
use Rattle.dk_template.specs.declared.templates.StateForm.TheVariants as form
use Rattle.dk_expr.specs.Finds.{IsFoundBy, IsNoLater, first_vars}
use Rattle.dk_expr.specs.Following.{IsSought, all_followed, start}
use Rattle.dk_expr.specs.Held.{is_held}
use Rattle.dk_expr.specs.Laws.{ReadStatesAreProper}
use Rattle.dk_expr.specs.Naming.{AreUnderNames, Listed, no_var, var_at}
use Rattle.dk_expr.specs.Reads.{HasNone, HasText, IsRead, told_state}
use Rattle.dk_expr.specs.Searches.{FindsParts}
use Rattle.dk_expr.specs.Telling.{Tells, printed_state}
use Rattle.dk_expr.specs.declared.assertions.Assertion.{Assertion}
use Rattle.dk_expr.specs.declared.found.Parsed.{Parsed}
use Rattle.dk_expr.proofs.Small.{small_of}
use Rattle.dk_expr.proofs.Told.{ended, found, printed}

-- ---- a state that prints the same
code_proper : (form : StateForm) (h k : ℕ) → IsProper form (state.Code h) → IsProper form (state.Code k)
code_proper form.Code h k p = tt
code_proper form.Texts h k p = absurd p.0
code_proper form.Offset h k p = absurd p.0
code_proper _ h k p = absurd p

code_text : (ps : List Part) (names : List (List ℕ)) (h k : ℕ) → (k == 0) ≡ (h == 0) → text_by ps names (state.Code k) ≡ text_by ps names (state.Code h)
code_text [] names h k e = refl
code_text (null_or bytes ∷ ps) names h k e =
    ap (λ b. (if b then codes " == null" else bytes) ++ text_by ps names (state.Code k)) e
    ∙ ap (λ t. (if h == 0 then codes " == null" else bytes) ++ t) (code_text ps names h k e)
code_text (p ∷ ps) names h k e = ap (λ t. part_text names (state.Code h) p ++ t) (code_text ps names h k e)

one_code : (h : ℕ) → ((if h == 0 then 0 else 1) == 0) ≡ (h == 0)
one_code h = by (h == 0)
  where
    by : (b : Bool) → ((if b then 0 else 1) == 0) ≡ b
    by true = refl
    by false = refl

code_held : (b : Bool) → nat_lt (if b then 0 else 1) (2 ^ 64) ≡ true
code_held true = refl
code_held false = refl

module _ (infos : List VarInfo) (text : List ℕ) (r : RowId) where
  printed_has : (vars : List VarId) (s : State) → HasText infos text r vars s → HasText infos text r vars (printed_state s)
  unfolding row_text
  printed_has vars (state.Code h) has =
      record {
        instance = has.instance;
        proper = code_proper (form_of r) h (if h == 0 then 0 else 1) has.proper;
        holds = refl;
        held = code_held (h == 0);
        prints = code_text (parts_of_row r) (var_names infos vars) h (if h == 0 then 0 else 1) (one_code h) ∙ has.prints;
      }
  printed_has vars s has = has

  -- ---- a candidate
  some_same : {X : Type 0} (x y : X) → Some x ≡ Some y → x ≡ y
  some_same x y e = cc

  pub candidate_some : {E : Type 0} (f : Parsed) (s : State) (own : List VarId) (result : Result (Option Assertion) E) → own ≡ first_vars (arity_of r) f
      → ((t : State) → IsProper (form_of r) t → IsTrue (fits t) → IsTrue (is_held t) → Tells text f t → Some s ≡ Some (printed_state t))
      → IfOk result (λ read. HasText infos text r own s → read ≡ Some (record { row = r; vars = own; state = s }))
      → IfOk result (λ read. (vars : List VarId) (t : State) → HasText infos text r vars t → IsFoundBy text r vars t f → IsSomeAnd read (λ a. a.vars ≡ vars))
  candidate_some f s own result are told some = IfOk-weaker result _ _ (λ read has vars t h by. of read has vars t h by) some
    where
      of : (read : Option Assertion) → (HasText infos text r own s → read ≡ Some (record { row = r; vars = own; state = s }))
          → (vars : List VarId) (t : State) → HasText infos text r vars t → IsFoundBy text r vars t f → IsSomeAnd read (λ a. a.vars ≡ vars)
      of read has vars t h by =
          let same : own ≡ vars = are ∙ by.vars_so in
          let shows : s ≡ printed_state t = some_same s (printed_state t) (told t h.proper h.holds h.held by.tells) in
          let own_has : HasText infos text r own s =
          subst (λ v. HasText infos text r v s) (sym same) (subst (λ u. HasText infos text r vars u) (sym shows) (printed_has vars t h)) in
          subst (λ o. IsSomeAnd o (λ a. a.vars ≡ vars)) (sym (has own_has)) same

-- ---- what is told of a proper state is proper
told_code_proper : (form : StateForm) (h : ℕ) (b : Bool) → IsProper form (state.Code h) → IsProper form (if b then state.Code 0 else state.Empty)
told_code_proper form.Code h true p = tt
told_code_proper form.Code h false p = tt
told_code_proper form.Texts h b p = absurd p.0
told_code_proper form.Offset h b p = absurd p.0
told_code_proper _ h b p = absurd p

told_proper : (form : StateForm) (s : State) → IsProper form s → IsProper form (told_state s)
told_proper form (state.Code h) p = told_code_proper form h (h == 0) p
told_proper form s p = p

pub read_states_are_proper : ReadStatesAreProper
read_states_are_proper infos text read is = (is.has.instance.of_grammar, subst (IsProper (form_of read.row)) (sym is.tells) (told_proper (form_of read.row) is.printed is.has.proper))

-- ---- the lesser one
pub precede_on : (vars b a : List VarId) → (Precedes vars a → ⊥) → Precedes b a → Precedes vars b → ⊥
precede_on vars b a n p q = n (precedes_both vars b a q p)

pub not_itself : (vs : List VarId) → Precedes vs vs → ⊥
not_itself [] h = h
not_itself (v ∷ vs) h = elim h as (λ _. ⊥) [ inl l ↦ omega (arith, l) | inr r ↦ not_itself vs r.1 ]

pub no_later_itself : (read : Option Assertion) → IfSome read (λ a. IsNoLater read a.vars)
no_later_itself None = tt
no_later_itself (Some a) = not_itself a.vars

pub ahead : (a b : Assertion) (vs ws : List VarId) (is_before : Bool) → vs ≡ b.vars → ws ≡ a.vars → is_before ≡ precedes vs ws → is_before ≡ true → Precedes b.vars a.vars
ahead a b vs ws is_before e f g h = true_precedes b.vars a.vars (ap (λ us. precedes us a.vars) (sym e) ∙ ap (precedes vs) (sym f) ∙ sym g ∙ h)

pub not_ahead : (a b : Assertion) (vs ws : List VarId) (is_before : Bool) → vs ≡ b.vars → ws ≡ a.vars → is_before ≡ precedes vs ws → is_before ≡ false → Precedes b.vars a.vars → ⊥
not_ahead a b vs ws is_before e f g h p = false≢true (sym h ∙ g ∙ ap (λ us. precedes us ws) e ∙ ap (precedes b.vars) f ∙ precedes_true b.vars a.vars p)

-- ---- what is sought
module _ (infos : List VarInfo) (text : List ℕ) (r : RowId) (vars : List VarId) (s : State) (has : HasText infos text r vars s) (listed : Listed) (under : AreUnderNames infos listed) where
  pub is_sought : IsSought listed (var_names infos vars) vars s
  is_sought =
      let there = admitted-there infos r vars (and_parts (admits r infos vars) _ has.instance.asked).0 in
      record {
        listed_so = λ role lt.
            let name : name_at (var_names infos vars) role ≡ (info_at infos (var_at vars role)).name = get_or-map (λ v. (info_at infos v).name) vars role no_var [] lt in
            subst (λ n. Contains (noted_under listed n) (var_at vars role)) (sym name) (under (var_at vars role) (there role no_var lt));
        small = small_of (form_of r) s has.proper has.holds has.held;
      }

  -- it is found behind all parts
  pub found_among : (ends : List Parsed) → FindsParts listed text (parts_of_row r) start ends → Contains ends (all_followed (var_names infos vars) vars s (parts_of_row r) start)
  found_among ends finds = finds (var_names infos vars) vars s is_sought (ended infos text r vars s has) (printed infos text r vars s has)

  pub found_by : IsFoundBy text r vars s (all_followed (var_names infos vars) vars s (parts_of_row r) start)
  found_by = found infos text r vars s has

-- what is found first
pub start_there : (none before : List Parsed) (first : Parsed) → none ≡ [] → first ≡ start → before ≡ none ++ first ∷ [] → Contains before start
start_there none before first e f g =
    subst (λ l. Contains l start) (sym (g ∙ ap (λ l. l ++ first ∷ []) e)) (subst (λ x. Contains ([] ++ first ∷ []) x) f (Contains-push [] first))

-- so the least of what is found is the first of all that have the text
pub least_found : {E : Type 0} (infos : List VarInfo) (text : List ℕ) (r : RowId) (listed : Listed) → AreUnderNames infos listed
    → (ends : List Parsed) → FindsParts listed text (parts_of_row r) start ends → (result : Result (Option Assertion) E)
    → IfOk result (λ read. (vars : List VarId) (s : State) (f : Parsed) → HasText infos text r vars s → Contains ends f → IsFoundBy text r vars s f → IsNoLater read vars)
    → IfOk result (λ read. (vars : List VarId) (s : State) → HasText infos text r vars s → IsNoLater read vars)
least_found infos text r listed under ends finds result =
    IfOk-weaker result _ _
    (λ read least vars s has.
    least vars s (all_followed (var_names infos vars) vars s (parts_of_row r) start) has
    (found_among infos text r vars s has listed under ends finds) (found_by infos text r vars s has listed under))

-- ---- the first row
abbrev row_at : ℕ → RowId
row_at n = record { 0 = n }

module _ (infos : List VarInfo) (text : List ℕ) where
  -- no instance of a row before this one has the text
  abbrev pub NoneBelow : ℕ → Type 0
  NoneBelow n = (q : RowId) (others : List VarId) (t : State) → q.0 < n → HasText infos text q others t → ⊥

  pub read_first : (a read : Assertion) (r : RowId) → NoneBelow r.0 → a.row ≡ r → HasText infos text r a.vars a.state
      → ((vars : List VarId) (s : State) → HasText infos text r vars s → Precedes vars a.vars → ⊥)
      → read.row ≡ a.row → read.vars ≡ a.vars → read.state ≡ told_state a.state → IsRead infos text read
  read_first a read r none row has least same_row same_vars same_state =
      let own : read.row ≡ r = same_row ∙ row in
      record {
        printed = a.state;
        has = subst (λ q. HasText infos text q read.vars a.state) (sym own) (subst (λ v. HasText infos text r v a.state) (sym same_vars) has);
        first = λ q others t h before. by own q others t h before;
        tells = same_state;
      }
    where
      by : read.row ≡ r → (q : RowId) (others : List VarId) (t : State) → HasText infos text q others t → ComesBefore (q, others) (read.row, read.vars) → ⊥
      by own q others t h (inl lt) = none q others t (subst (λ (p : RowId). q.0 < p.0) own lt) h
      by own q others t h (inr same) = least others t (subst (λ p. HasText infos text p others t) (same.0 ∙ own) h) (subst (λ v. Precedes others v) same_vars same.1)

  pub more_below : (r : RowId) (n : ℕ) → r.0 ≡ n → NoneBelow n → ((vars : List VarId) (s : State) → HasText infos text r vars s → ⊥) → NoneBelow (n + 1)
  more_below r n is none own q others t lt h = by (cases_lt q.0 n)
    where
      by : (q.0 < n) ⊎ (n ≤ q.0) → ⊥
      by (inl below) = none q others t below h
      by (inr above) =
          let same : q.0 ≡ r.0 = omega (arith, lt, above, is) in
          let row : q ≡ r = ap row_at same in
          own others t (subst (λ p. HasText infos text p others t) row h)

  pub none_at_all : NoneBelow 69 → HasNone infos text
  none_at_all none r vars s h = none r vars s (let high = h.instance.of_grammar.1 in omega (arith, high)) h

-- ---- the least of what was found
module _ (infos : List VarInfo) (text : List ℕ) (r : RowId) where
  -- no instance that was found comes before this one
  abbrev pub IsBelow : Option Assertion → Parsed → Type 0
  IsBelow least f = (vars : List VarId) (s : State) → HasText infos text r vars s → IsFoundBy text r vars s f → IsNoLater least vars

  pub record IsLeastUpTo (ends : List Parsed) (least : Option Assertion) (n : ℕ) : Type 0 where
    pub has : IfSome least (λ a. (a.row ≡ r) × HasText infos text r a.vars a.state)
    pub below : AllWithin (IsBelow least) ends 0 n

  pub none_least : (ends : List Parsed) → IsLeastUpTo ends None 0
  none_least ends = record { has = tt; below = AllWithin-none (IsBelow None) ends 0 }

  -- one of them more
  pub more_least : (ends : List Parsed) (old next new : Option Assertion) (i : ℕ) (f : Parsed) → i < length ends → f ≡ get_or ends i f
      → IfSome next (λ a. (a.row ≡ r) × HasText infos text r a.vars a.state)
      → ((vars : List VarId) (s : State) → HasText infos text r vars s → IsFoundBy text r vars s f → IsSomeAnd next (λ a. a.vars ≡ vars))
      → (new ≡ old) ⊎ (new ≡ next) → ((vars : List VarId) → IsNoLater old vars → IsNoLater new vars) → IfSome next (λ a. IsNoLater new a.vars)
      → IsLeastUpTo ends old i → IsLeastUpTo ends new (i + 1)
  more_least ends old next new i f lt is has some choice first second so_far =
      record {
        has = of choice;
        below =
            AllWithin-more (IsBelow new) ends 0 i
            (λ k d low high vars s h by. first vars (so_far.below k d low high vars s h by))
            (at_read ends (IsBelow new) i f lt is (λ vars s h by. here next vars second (some vars s h by)));
      }
    where
      of : (new ≡ old) ⊎ (new ≡ next) → IfSome new (λ a. (a.row ≡ r) × HasText infos text r a.vars a.state)
      of (inl e) = subst (λ o. IfSome o (λ a. (a.row ≡ r) × HasText infos text r a.vars a.state)) (sym e) so_far.has
      of (inr e) = subst (λ o. IfSome o (λ a. (a.row ≡ r) × HasText infos text r a.vars a.state)) (sym e) has

      here : (next : Option Assertion) (vars : List VarId) → IfSome next (λ a. IsNoLater new a.vars) → IsSomeAnd next (λ a. a.vars ≡ vars) → IsNoLater new vars
      here None vars h k = absurd k
      here (Some a) vars h k = subst (IsNoLater new) k h

  -- all of them
  pub least_of_all : (ends : List Parsed) (least : Option Assertion) → IsLeastUpTo ends least (length ends)
      → (vars : List VarId) (s : State) (f : Parsed) → HasText infos text r vars s → Contains ends f → IsFoundBy text r vars s f → IsNoLater least vars
  least_of_all ends least all vars s f h there by = All-contains (IsBelow least) ends f (All-from_all_within (IsBelow least) ends all.below) there vars s h by
