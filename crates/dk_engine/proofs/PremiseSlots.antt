-- What the premises of a row's rules ask of leaders.
use Rattle.std.specs.Prelude.{◌≡◌, ◌<◌, ◌≤◌, ◌==◌, Bool, true, false, All, Contains, IsTrue, List, [], ◌∷◌, cond, length, map, nat_lt, refl}
use Rattle.std.specs.List.{list_all, list_any}
use Rattle.std.proofs.Common.{ap, arith, get_or, inl, inr, subst, sym, ◌∙◌}
use Rattle.std.proofs.lemmas.Bool.{and_parts, eq-eqb, eqb-true, ltb-true}
use Rattle.std.proofs.lemmas.List.Elements.{All-cons, All-contains, All-head, All-map, All-tail}
use Rattle.std.proofs.lemmas.List.Folds.{list_any_at}
use Rattle.std.proofs.lemmas.List.Sums.{AllPass-from_list_all}
use Rattle.dk_base.specs.declared.kinds.VarId.{VarId}
use Rattle.dk_base.specs.declared.kinds.VarInfo.{VarInfo}
use Rattle.dk_base.specs.declared.values.Value.{Value}
use Rattle.dk_classes.specs.Leaders.{own_leaders}
use Rattle.dk_instances.proofs.Members.{contained, in_map, is_in}
use Rattle.dk_instances.proofs.Turning.{fits_turn}
use Rattle.dk_instances.specs.Fits.{fit, premise_holds, tuples_of}
use Rattle.dk_forms.specs.Laws.{IsIn}
use Rattle.dk_forms.specs.Plain.{IsPlainState, plain_of}
use Rattle.dk_forms.specs.declared.states.State.{State}
use Rattle.dk_forms.specs.declared.states.State.TheVariants as state
use Rattle.dk_meanings.proofs.RowLaws.{plain_rows}
use Rattle.dk_meanings.specs.Meanings.{relation_of}
use Rattle.dk_suppress.proofs.Facts.{premises_below}
use Rattle.dk_suppress.proofs.Saying.{plain_form}
use Rattle.dk_suppress.proofs.Usable.{premises_usable}
use Rattle.dk_suppress.specs.Laws.{AllPremises}
use Rattle.dk_suppress.specs.Rules.{Rule, asks, rules}
use Rattle.dk_template.proofs.WrittenOrder.{arranged_ascends, written_tuples_are_admitted}
use Rattle.dk_template.specs.Admitted.{admits}
use Rattle.dk_template.specs.Exchange.{arrange_tuple, descends, disarrange_state, exchange, exchanged_back, exchanged_state, order_tuple, written_order}
use Rattle.dk_template.specs.Fitting.{fits}
use Rattle.dk_template.specs.Premises.{IsUsable, at_role, roles_read, row_of, suffices, vars_of}
use Rattle.dk_template.specs.Templates.{IsRow, IsRowOf, arity_of, form_of, is_plain, rank_of, roles_of, template_of}
use Rattle.dk_template.specs.declared.answers.Premise.{Premise}
use Rattle.dk_template.specs.declared.answers.Premise.TheVariants.{Holds, LeastAtLeast, GreatestAtMost, Only}
use Rattle.dk_template.specs.declared.exchange.Exchange.{Exchange}
use Rattle.dk_template.specs.declared.exchange.Exchange.TheVariants.{First, Last}
use Rattle.dk_template.specs.declared.grammar.Grammar.{Grammar}
use Rattle.dk_template.specs.declared.grammar.Grammar.TheVariants as grammar
use Rattle.dk_template.specs.declared.grammar.RowId.{RowId}
use Rattle.dk_template.specs.declared.templates.Symmetry.{Symmetry}
use Rattle.dk_template.specs.declared.templates.Symmetry.TheVariants as symmetry
use Rattle.dk_template.specs.declared.templates.Takes.{Takes}
use Rattle.dk_template.specs.declared.templates.Takes.TheVariants.{One, Two, Three}
use Rattle.dk_engine.specs.Exact.{Lead}
use Rattle.dk_engine.specs.StepLaws.{RolesReadTheSlot}
use Rattle.dk_engine.specs.Feeding.Step.{IsPlaced, IsPremiseOf, slot_vars}

-- ---- the table of the rules
-- a test that all premises of all rules pass
pub passes : (test : Rule → Premise → Bool) → AllPremises test → (row : RowId) (p : Premise) → (of : IsPremiseOf row p) → test of.rule p ≡ true
passes test all row p of =
    let rule = All-contains (λ (r : Rule). list_all (test r) r.1 ≡ true) rules of.rule (AllPass-from_list_all (λ (r : Rule). list_all (test r) r.1) rules all) of.listed in
    All-contains (λ q. test of.rule q ≡ true) of.rule.1 p (AllPass-from_list_all (test of.rule) of.rule.1 rule) of.asks

-- rules ask about the row of a premise
pub premise_is_asked : (row : RowId) (p : Premise) → IsPremiseOf row p → list_any (asks (row_of p)) rules ≡ true
premise_is_asked row p of =
    let own = list_any_at (λ (q : Premise). (row_of q).0 == (row_of p).0) of.rule.1 of.asks.0 p of.asks.1 (ap (λ (q : Premise). (row_of q).0 == (row_of p).0) of.asks.2 ∙ eq-eqb (row_of p).0 (row_of p).0 refl) in
    list_any_at (asks (row_of p)) rules of.listed.0 of.rule of.listed.1 (ap (asks (row_of p)) of.listed.2 ∙ own)

pub rank_below : (row : RowId) (p : Premise) → IsPremiseOf row p → rank_of (row_of p) < rank_of row
rank_below row p of =
    ltb-true (rank_of (row_of p)) (rank_of row)
    (subst (λ (r : RowId). nat_lt (rank_of (row_of p)) (rank_of r) ≡ true) of.concludes (passes (λ r q. nat_lt (rank_of (row_of q)) (rank_of r.0)) premises_below row p of))

pub usable : (g : Grammar) (infos : List VarInfo) (vars : List VarId) (row : RowId) → IsTrue (admits row infos vars) → (p : Premise) → IsPremiseOf row p → IsUsable g infos p vars
usable g infos vars row admitted p of =
    let P : Rule → Type 0 = λ r. IsTrue (admits r.0 infos vars) → All (λ q. IsUsable g infos q vars) r.1 in
    let all = All-contains P rules of.rule (premises_usable g infos vars) of.listed (subst (λ (r : RowId). IsTrue (admits r infos vars)) (sym of.concludes) admitted) in
    All-contains (λ q. IsUsable g infos q vars) of.rule.1 p all of.asks

pub row_of_grammar : (g : Grammar) (row : RowId) → IsRowOf g row → IsRow row
row_of_grammar grammar.One row is = let low = is.0 in let high = is.1 in (omega (arith, low), omega (arith, high))
row_of_grammar grammar.Two row is = is

-- ---- what is true of each variable is true of those that a premise asks about
by_role : (p : Premise) (vars : List VarId) → vars_of p vars ≡ map (λ role. at_role role vars) (roles_read p)
by_role (Holds row roles) vars = refl
by_role (LeastAtLeast row role k) vars = refl
by_role (GreatestAtMost row role k) vars = refl
by_role (Only role k) vars = refl

module _ (P : VarId → Type 0) where
  exchange_all : (e : Exchange) (vars : List VarId) → All P vars → All P (exchange e vars)
  exchange_all First [] h = h
  exchange_all First (v ∷ []) h = h
  exchange_all First (v ∷ w ∷ rest) h =
      let t = All-tail P v (w ∷ rest) h in
      All-cons P w (v ∷ rest) (All-head P w rest t) (All-cons P v rest (All-head P v (w ∷ rest) h) (All-tail P w rest t))
  exchange_all Last [] h = h
  exchange_all Last (u ∷ []) h = h
  exchange_all Last (u ∷ v ∷ []) h = h
  exchange_all Last (u ∷ v ∷ w ∷ rest) h =
      All-cons P u (w ∷ v ∷ rest) (All-head P u (v ∷ w ∷ rest) h) (exchange_all First (v ∷ w ∷ rest) (All-tail P u (v ∷ w ∷ rest) h))

  ordered_all : (e : Exchange) (vars : List VarId) → All P vars → All P (order_tuple e vars)
  ordered_all e vars h = elim (descends e vars) as (λ b. All P (cond b (exchange e vars) vars)) [ true ↦ exchange_all e vars h | false ↦ h ]

  arranged_all : (s : Symmetry) (vars : List VarId) → All P vars → All P (arrange_tuple s vars)
  arranged_all symmetry.Fixed vars h = h
  arranged_all symmetry.All vars h = ordered_all Last (order_tuple First (order_tuple Last vars)) (ordered_all First (order_tuple Last vars) (ordered_all Last vars h))
  arranged_all symmetry.Arguments vars h = ordered_all Last vars h

  pub asked_all : (p : Premise) (vars : List VarId) → All (λ role. role < length vars) (roles_read p) → All P vars → All P (vars_of p vars)
  asked_all p vars there h =
      subst (All P) (sym (by_role p vars))
      (All-map P (λ role. at_role role vars) (roles_read p) (λ k d l. h (get_or (roles_read p) k d) (record { 0 = 0 }) (there k d l)))

  pub slot_all : (p : Premise) (vars : List VarId) → All (λ role. role < length vars) (roles_read p) → All P vars → All P (slot_vars p vars)
  slot_all p vars there h = arranged_all (template_of (row_of p)).symmetry (vars_of p vars) (asked_all p vars there h)

-- ---- the variables at the roles that a premise reads
exchange_in : (e : Exchange) (v : VarId) (vars : List VarId) → IsIn v vars → IsIn v (exchange e vars)
exchange_in First v [] h = h
exchange_in First v (a ∷ []) h = h
exchange_in First v (a ∷ b ∷ rest) (inl h) = inr (inl h)
exchange_in First v (a ∷ b ∷ rest) (inr (inl h)) = inl h
exchange_in First v (a ∷ b ∷ rest) (inr (inr h)) = inr (inr h)
exchange_in Last v [] h = h
exchange_in Last v (a ∷ []) h = h
exchange_in Last v (a ∷ b ∷ []) h = h
exchange_in Last v (a ∷ b ∷ c ∷ rest) (inl h) = inl h
exchange_in Last v (a ∷ b ∷ c ∷ rest) (inr h) = inr (exchange_in First v (b ∷ c ∷ rest) h)

ordered_in : (e : Exchange) (v : VarId) (vars : List VarId) → IsIn v vars → IsIn v (order_tuple e vars)
ordered_in e v vars h = elim (descends e vars) as (λ b. IsIn v (cond b (exchange e vars) vars)) [ true ↦ exchange_in e v vars h | false ↦ h ]

arranged_in : (s : Symmetry) (v : VarId) (vars : List VarId) → IsIn v vars → IsIn v (arrange_tuple s vars)
arranged_in symmetry.Fixed v vars h = h
arranged_in symmetry.All v vars h = ordered_in Last v (order_tuple First (order_tuple Last vars)) (ordered_in First v (order_tuple Last vars) (ordered_in Last v vars h))
arranged_in symmetry.Arguments v vars h = ordered_in Last v vars h

pub roles_read_the_slot : RolesReadTheSlot
roles_read_the_slot p vars role has =
    let own = vars_of p vars in
    let read = in_map (λ r. at_role r vars) role (roles_read p) (is_in role (roles_read p) has.0 has.1 has.2) in
    contained (at_role role vars) (slot_vars p vars) (arranged_in (template_of (row_of p)).symmetry (at_role role vars) own (subst (IsIn (at_role role vars)) (sym (by_role p vars)) read))

-- ---- a premise's slot
few_roles : (t : Takes) → length (roles_of t) ≤ 3
few_roles (One a) = omega arith
few_roles (Two a b) = omega arith
few_roles (Three a b c) = omega arith

pub long : (row : RowId) (infos : List VarInfo) (vars : List VarId) → IsTrue (admits row infos vars) → length vars ≡ arity_of row
long row infos vars a = let roles = roles_of (template_of row).takes in eqb-true (length vars) (length roles) (and_parts (length vars == length roles) _ a).0

pub asks_admitted : (g : Grammar) (infos : List VarInfo) (vars : List VarId) (p : Premise) → IsUsable g infos p vars → IsTrue (admits (row_of p) infos (slot_vars p vars))
asks_admitted g infos vars p can = written_tuples_are_admitted (row_of p) (row_of_grammar g (row_of p) can.row) infos (vars_of p vars) can.admitted

-- a premise over leaders asks about a row over leaders, in its written order
pub asks_placed : (g : Grammar) (infos : List VarInfo) (leaders vars : List VarId) (p : Premise) → IsUsable g infos p vars → Lead leaders vars → IsPlaced g infos leaders (row_of p) (slot_vars p vars)
asks_placed g infos leaders vars p can lead =
    let own = vars_of p vars in
    let n = few_roles (template_of (row_of p)).takes in
    let l = long (row_of p) infos own can.admitted in
    record {
      over = record {
        of_grammar = can.row;
        admitted = asks_admitted g infos vars p can;
        lead = slot_all (Contains (own_leaders leaders)) p vars can.roles lead;
      };
      written = arranged_ascends (template_of (row_of p)).symmetry own (omega (arith, n, l));
    }

-- ---- a premise finds the same in its slot
plain_exchanged : (e : Exchange) (s : State) → IsPlainState s → exchanged_state e s ≡ s
plain_exchanged First state.Empty h = refl
plain_exchanged First state.Broken h = refl
plain_exchanged First state.Holds h = refl
plain_exchanged Last state.Empty h = refl
plain_exchanged Last state.Broken h = refl
plain_exchanged Last state.Holds h = refl
plain_exchanged _ _ h = absurd h

plain_back : (e : Exchange) (vars : List VarId) (s : State) → IsPlainState s → exchanged_back e vars s ≡ s
plain_back e vars s h = elim (descends e vars) as (λ b. cond b (exchanged_state e s) s ≡ s) [ true ↦ plain_exchanged e s h | false ↦ refl ]

plain_disarranged : (y : Symmetry) (vars : List VarId) (s : State) → IsPlainState s → disarrange_state y vars s ≡ s
plain_disarranged symmetry.Fixed vars s h = refl
plain_disarranged symmetry.All vars s h =
    let one = order_tuple Last vars in
    ap (λ t. exchanged_back Last vars (exchanged_back First one t)) (plain_back Last (order_tuple First one) s h) ∙ (ap (exchanged_back Last vars) (plain_back First one s h) ∙ plain_back Last vars s h)
plain_disarranged symmetry.Arguments vars s h = plain_back Last vars s h

plain_of_list : (bs : List Bool) → IsPlainState (plain_of bs)
plain_of_list [] = tt
plain_of_list (b ∷ bs) = elim (list_all (λ h. h) (b ∷ bs)) as (λ c. IsPlainState (cond c state.Holds state.Broken)) [ true ↦ tt | false ↦ tt ]

pub plain_fit : (row : RowId) → IsRow row → IsTrue (is_plain (form_of row)) → (vars : List VarId) (samples : List (List Value)) → IsPlainState (fit row vars samples)
unfolding fit
plain_fit row is plain vars samples =
    subst IsPlainState (sym (plain_rows row is (plain_form (form_of row) plain) (tuples_of vars samples))) (plain_of_list (map (relation_of row) (tuples_of vars samples)))

pub arranged_one : (y : Symmetry) (v : VarId) → arrange_tuple y (v ∷ []) ≡ v ∷ []
arranged_one symmetry.Fixed v = refl
arranged_one symmetry.All v = refl
arranged_one symmetry.Arguments v = refl

pub slot_tells : (g : Grammar) (infos : List VarInfo) (vars : List VarId) (p : Premise) → IsUsable g infos p vars → (samples : List (List Value))
    → premise_holds samples p vars ≡ suffices p (fit (row_of p) (slot_vars p vars) samples)
slot_tells g infos vars (Holds row roles) can samples =
    let is = row_of_grammar g row can.row in
    let own = vars_of (Holds row roles) vars in
    let plain = plain_fit row is (and_parts (is_plain (form_of row)) _ can.formed).0 (written_order row own) samples in
    ap fits (fits_turn row is own (long row infos own can.admitted) samples ∙ plain_disarranged (template_of row).symmetry own (fit row (written_order row own) samples) plain)
slot_tells g infos vars (LeastAtLeast row role k) can samples = ap (λ own. suffices (LeastAtLeast row role k) (fit row own samples)) (sym (arranged_one (template_of row).symmetry (at_role role vars)))
slot_tells g infos vars (GreatestAtMost row role k) can samples = ap (λ own. suffices (GreatestAtMost row role k) (fit row own samples)) (sym (arranged_one (template_of row).symmetry (at_role role vars)))
slot_tells g infos vars (Only role k) can samples = ap (λ own. suffices (Only role k) (fit (row_of (Only role k)) own samples)) (sym (arranged_one (template_of (row_of (Only role k))).symmetry (at_role role vars)))
