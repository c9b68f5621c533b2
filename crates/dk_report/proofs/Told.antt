-- What isn't Broken by what an engine keeps is over variables of which its tables tell.
use Rattle.std.specs.Prelude.{◌≡◌, ◌≢◌, ◌<◌, ◌≤◌, ◌&&◌, ◌||◌, ◌==◌, ℕ, zero, suc, Bool, true, false, not, List, [], ◌∷◌, count_by, filter, if◌then◌else◌, is_some, length, map, nat_le, nat_lt, refl, slice_index_or, Option, Some, None}
use Rattle.std.specs.List.{list_all, list_any, range_with_len}
use Rattle.std.proofs.Common.{◌∙◌, ap, arith, inl, inr, subst, sym}
use Rattle.std.proofs.lemmas.Bool.{and_from, and_parts, cases_Bool, eq-eqb, eqb-true, false≢true, leb-true, lt-ltb, ltb-true, or_left, or_right, true≢false}
use Rattle.std.proofs.lemmas.List.{get_or-map, length-map}
use Rattle.std.proofs.lemmas.List.Sums.{length-filter}
use Rattle.std.proofs.lemmas.List.FromFn.{get_or-range_with_len, length-range_with_len}
use Rattle.dk_base.specs.Pieces.{is_empty}
use Rattle.dk_base.specs.declared.kinds.VarId.{VarId}
use Rattle.dk_constants.specs.Known.{known_at}
use Rattle.dk_engine.proofs.LostPremises.{broken_suffices_not}
use Rattle.dk_engine.proofs.SlotLookups.{slot_found}
use Rattle.dk_engine.specs.Reading.{read_leaders, read_slot, read_written, state_of_one}
use Rattle.dk_engine.specs.Reading.Parts.{all_known, known_tuple, slot_at}
use Rattle.dk_engine.specs.declared.kept.Kept.{Kept}
use Rattle.dk_engine.specs.declared.slots.slot.Slot.{Slot}
use Rattle.dk_forms.specs.Laws.{IsIn}
use Rattle.dk_forms.specs.declared.states.State.{State}
use Rattle.dk_forms.specs.declared.states.State.TheVariants.{Broken}
use Rattle.dk_instances.proofs.Members.{in_filter, in_map, is_in}
use Rattle.dk_instances.specs.Instances.{are_distinct, rows_of}
use Rattle.dk_presence.specs.Patterns.{counted_by, has}
use Rattle.dk_suppress.specs.Rules.{Rule, is_suppressed, rules}
use Rattle.dk_template.proofs.WrittenTuples.{few_roles}
use Rattle.dk_template.specs.Exchange.{descends, disarrange_state, exchanged_back, exchanged_state, order_tuple, turned_state, written_order}
use Rattle.dk_template.specs.Premises.{at_role, premise_fits, roles_read, row_of, suffices, vars_of}
use Rattle.dk_template.specs.Templates.{IsRow, IsRowOf, arity_of, rows, rows_in, template_of}
use Rattle.dk_template.specs.declared.answers.Premise.{Premise}
use Rattle.dk_template.specs.declared.answers.Premise.TheVariants.{Holds, LeastAtLeast, GreatestAtMost, Only}
use Rattle.dk_template.specs.declared.exchange.Exchange.{Exchange}
use Rattle.dk_template.specs.declared.exchange.Exchange.TheVariants.{First, Last}
use Rattle.dk_template.specs.declared.grammar.Grammar.{Grammar}
use Rattle.dk_template.specs.declared.grammar.Grammar.TheVariants as grammar
use Rattle.dk_template.specs.declared.grammar.RowId.{RowId}
use Rattle.dk_template.specs.declared.templates.Symmetry.{Symmetry}
use Rattle.dk_template.specs.declared.templates.Symmetry.TheVariants as symmetry
use Rattle.dk_report.proofs.Picking.{Apart, all-at, are_apart, moved-written, picked, picked-apart, picked-in, picked-map, place-of}
use Rattle.dk_report.specs.Narrowing.{stands_in}
use Rattle.dk_report.specs.Viewing.{all_may_fit, is_met, is_told, leads_several, may_fit, may_follow, may_follow_by, reads, told_at, told_row, told_rows}

-- ---- tests of lists
any-at : {X : Type 0} (q : X → Bool) (x : X) (xs : List X) → IsIn x xs → q x ≡ true → list_any q xs ≡ true
any-at q x [] i h = absurd i
any-at q x (y ∷ xs) (inl e) h = or_left (q y) (list_any q xs) (ap q (sym e) ∙ h)
any-at q x (y ∷ xs) (inr i) h = or_right (q y) (list_any q xs) (any-at q x xs i h)

any-found : {X : Type 0} (q : X → Bool) (xs : List X) → list_any q xs ≡ true → (x : X) × IsIn x xs × (q x ≡ true)
any-found q [] h = absurd (false≢true h)
any-found {X} q (x ∷ xs) h = elim (cases_Bool (q x)) as (λ _. (y : X) × IsIn y (x ∷ xs) × (q y ≡ true)) [
  | inl here ↦ (x, inl refl, here)
  | inr gone ↦ (let rest = any-found q xs (sym (ap (λ b. b || list_any q xs) gone) ∙ h) in (rest.0, inr rest.1, rest.2))
]

all-of : {X : Type 0} (q : X → Bool) (xs : List X) → ((x : X) → IsIn x xs → q x ≡ true) → list_all q xs ≡ true
all-of q [] each = refl
all-of q (x ∷ xs) each = and_from (q x) (list_all q xs) (each x (inl refl)) (all-of q xs (λ y i. each y (inr i)))

has-of : (v : VarId) (vars : List VarId) → IsIn v vars → has vars v ≡ true
has-of v vars i = any-at (λ (w : VarId). w.0 == v.0) v vars i (eq-eqb v.0 v.0 refl)

some-in : (v : VarId) (vars : List VarId) → IsIn v vars → not (is_empty vars) ≡ true
some-in v [] i = absurd i
some-in v (w ∷ vars) i = refl

-- ---- Broken stays Broken, whichever way round
exchanged-broken : (e : Exchange) → exchanged_state e Broken ≡ Broken
exchanged-broken First = refl
exchanged-broken Last = refl

back-by : (e : Exchange) (b : Bool) (s : State) → s ≡ Broken → (if b then exchanged_state e s else s) ≡ Broken
back-by e true s h = ap (exchanged_state e) h ∙ exchanged-broken e
back-by e false s h = h

back-broken : (e : Exchange) (tuple : List VarId) (s : State) → s ≡ Broken → exchanged_back e tuple s ≡ Broken
back-broken e tuple s h = back-by e (descends e tuple) s h

disarranged-broken : (m : Symmetry) (tuple : List VarId) (s : State) → s ≡ Broken → disarrange_state m tuple s ≡ Broken
disarranged-broken symmetry.Fixed tuple s h = h
disarranged-broken symmetry.All tuple s h =
    back-broken Last tuple (exchanged_back First (order_tuple Last tuple) (exchanged_back Last (order_tuple First (order_tuple Last tuple)) s))
    (back-broken First (order_tuple Last tuple) (exchanged_back Last (order_tuple First (order_tuple Last tuple)) s) (back-broken Last (order_tuple First (order_tuple Last tuple)) s h))
disarranged-broken symmetry.Arguments tuple s h = back-broken Last tuple s h

turned-broken : (row : RowId) (tuple : List VarId) (s : State) → s ≡ Broken → turned_state row tuple s ≡ Broken
turned-broken row tuple s h = disarranged-broken (template_of row).symmetry tuple s h

-- ---- what the table of the rules comes to
-- the premise's row is one of both grammars, and it reads as many roles as the row has, of its conclusion's, none twice
abbrev reads_apart : Rule → Premise → Bool
reads_apart r p =
    nat_le 1 (row_of p).0 && (nat_le (row_of p).0 66 && (length (roles_read p) == arity_of (row_of p)
    && (list_all (λ role. nat_lt role (arity_of r.0)) (roles_read p) && (are_apart (roles_read p) && not (is_empty (roles_read p))))))

all-read-apart : list_all (λ (r : Rule). list_all (reads_apart r) r.1) rules ≡ true
unfolding rules rows
all-read-apart = refl

-- what a premise of a rule is
record IsPremise (r : Rule) (p : Premise) : Type 0 where
  pub low : 1 ≤ (row_of p).0
  pub high : (row_of p).0 ≤ 66
  pub long : length (roles_read p) ≡ arity_of (row_of p)
  pub there : list_all (λ role. nat_lt role (arity_of r.0)) (roles_read p) ≡ true
  pub apart : are_apart (roles_read p) ≡ true
  pub some : not (is_empty (roles_read p)) ≡ true

is-premise : (r : Rule) → IsIn r rules → (p : Premise) → IsIn p r.1 → IsPremise r p
is-premise r i p j =
    let h = all-at (reads_apart r) p r.1 j (all-at (λ (s : Rule). list_all (reads_apart s) s.1) r rules i all-read-apart) in
    let h1 = and_parts (nat_le 1 (row_of p).0) _ h in
    let h2 = and_parts (nat_le (row_of p).0 66) _ h1.1 in
    let h3 = and_parts (length (roles_read p) == arity_of (row_of p)) _ h2.1 in
    let h4 = and_parts (list_all (λ role. nat_lt role (arity_of r.0)) (roles_read p)) _ h3.1 in
    let h5 = and_parts (are_apart (roles_read p)) (not (is_empty (roles_read p))) h4.1 in
    record {
      low = leb-true 1 (row_of p).0 h1.0;
      high = leb-true (row_of p).0 66 h2.0;
      long = eqb-true (length (roles_read p)) (arity_of (row_of p)) h3.0;
      there = h4.0;
      apart = h5.0;
      some = h5.1;
    }

of-both : (g : Grammar) (r : RowId) → 1 ≤ r.0 → r.0 ≤ 66 → IsRowOf g r
of-both grammar.One r a b = (a, b)
of-both grammar.Two r a b = (a, omega (arith, b))

-- the rows of all premises are rows
pub premise-rows : (r : Rule) → IsIn r rules → (p : Premise) → IsIn p r.1 → IsRow (row_of p)
premise-rows r i p j = let is = is-premise r i p j in let high = is.high in (is.low, omega (arith, high))

vars-picked : (p : Premise) (vars : List VarId) → vars_of p vars ≡ picked vars (roles_read p)
vars-picked (Holds row roles) vars = refl
vars-picked (LeastAtLeast row role k) vars = refl
vars-picked (GreatestAtMost row role k) vars = refl
vars-picked (Only role k) vars = refl

-- ---- a table's row
pub row-at : {X : Type 0} (g : Grammar) (F : RowId → List X) (row : RowId) → IsRowOf g row → slice_index_or ([] ∷ map F (rows_of g)) row.0 [] ≡ F row
row-at {X} g F row of = at row.0 refl
  where
    at : (n : ℕ) → row.0 ≡ n → slice_index_or ([] ∷ map F (rows_of g)) n [] ≡ F row
    at zero e = (let low = of.0 in absurd (omega (arith, low, e)))
    at (suc n) e =
        let f : ℕ → RowId = λ m. record { 0 = m } in
        let numbers = range_with_len 1 (rows_in g) in
        let high = of.1 in
        let l : n < rows_in g = omega (arith, high, e) in
        let m = length-range_with_len 1 (rows_in g) in
        let there : n < length numbers = omega (arith, m, l) in
        let k = length-map numbers f in
        let there_too : n < length (map f numbers) = omega (arith, k, there) in
        get_or-map F (map f numbers) n (f 0) [] there_too
        ∙ ap F (get_or-map f numbers n 0 (f 0) there ∙ ap f (get_or-range_with_len 1 (rows_in g) n 0 l ∙ omega (arith, e)))

-- ---- leaders of different variables
module _ (f : VarId → VarId) where
  abbrev pub pair_of : VarId → VarId × VarId
  pair_of v = (v, f v)

  abbrev leads_one : VarId → VarId × VarId → Bool
  leads_one a pair = pair.1.0 == a.0

  abbrev led_by : VarId → List VarId → List (VarId × VarId)
  led_by a vars = filter (leads_one a) (map pair_of vars)

  led-first : (a v : VarId) (vars : List VarId) → f v ≡ a → led_by a (v ∷ vars) ≡ pair_of v ∷ led_by a vars
  led-first a v vars e = ap (λ b. if b then pair_of v ∷ led_by a vars else led_by a vars) (eq-eqb (f v).0 a.0 (ap (λ (x : VarId). x.0) e))

  led-more : (n : ℕ) (a v : VarId) (vars : List VarId) → n ≤ length (led_by a vars) → n ≤ length (led_by a (v ∷ vars))
  led-more n a v vars rest = elim ((f v).0 == a.0) as (λ b. n ≤ length (if b then pair_of v ∷ led_by a vars else led_by a vars)) [ true ↦ omega (arith, rest) | false ↦ rest ]

  counts-one : (a v : VarId) (vars : List VarId) → IsIn v vars → f v ≡ a → 1 ≤ length (led_by a vars)
  counts-one a v [] i e = absurd i
  counts-one a v (w ∷ vars) (inl same) e = subst (λ (ps : List (VarId × VarId)). 1 ≤ length ps) (sym (led-first a w vars (ap f (sym same) ∙ e))) (omega arith)
  counts-one a v (w ∷ vars) (inr i) e = led-more 1 a w vars (counts-one a v vars i e)

  counts-two : (a v w : VarId) (vars : List VarId) → IsIn v vars → IsIn w vars → (v ≡ w → ⊥) → f v ≡ a → f w ≡ a → 2 ≤ length (led_by a vars)
  counts-two a v w [] i j apart e d = absurd i
  counts-two a v w (x ∷ vars) (inl s) (inl t) apart e d = absurd (apart (s ∙ sym t))
  counts-two a v w (x ∷ vars) (inl s) (inr j) apart e d =
      let rest = counts-one a w vars j d in
      subst (λ (ps : List (VarId × VarId)). 2 ≤ length ps) (sym (led-first a x vars (ap f (sym s) ∙ e))) (omega (arith, rest))
  counts-two a v w (x ∷ vars) (inr i) (inl t) apart e d =
      let rest = counts-one a v vars i e in
      subst (λ (ps : List (VarId × VarId)). 2 ≤ length ps) (sym (led-first a x vars (ap f (sym t) ∙ d))) (omega (arith, rest))
  counts-two a v w (x ∷ vars) (inr i) (inr j) apart e d = led-more 2 a x vars (counts-two a v w vars i j apart e d)

  -- one of them leads several, if one stands twice
  several-lead : (several vars : List VarId) → Apart vars → ((w : VarId) → IsIn w vars → IsIn w several) → are_distinct (map f vars) ≡ false
      → list_any (leads_several (map pair_of several)) (map f vars) ≡ true
  several-lead several [] a within h = absurd (true≢false h)
  several-lead several (v ∷ vars) a within h =
      let led = map pair_of several in
      let rest = several-lead several vars a.1 (λ w i. within w (inr i)) in
      let head = list_all (λ (w : VarId). not ((f v).0 == w.0)) (map f vars) in
      elim (cases_Bool head) as (λ _. leads_several led (f v) || list_any (leads_several led) (map f vars) ≡ true) [
        | inl alone ↦
            or_right (leads_several led (f v)) (list_any (leads_several led) (map f vars)) (rest (sym (ap (λ b. b && are_distinct (map f vars)) alone) ∙ h))
        | inr shared ↦
            (let twin = same-leader vars shared in
            let apart : v ≡ twin.0 → ⊥ = λ e. a.0 twin.0 twin.1 (ap (λ (x : VarId). x.0) e) in
            let two = counts-two (f v) v twin.0 several (within v (inl refl)) (within twin.0 (inr twin.1)) apart refl (sym twin.2) in
            or_left (leads_several led (f v)) (list_any (leads_several led) (map f vars)) (lt-ltb 1 (count_by (leads_one (f v)) led) (let n = length-filter (leads_one (f v)) led in omega (arith, two, n))))
      ]
    where
      same-leader : (others : List VarId) → list_all (λ (w : VarId). not ((f v).0 == w.0)) (map f others) ≡ false → (u : VarId) × IsIn u others × (f v ≡ f u)
      same-leader [] none = absurd (true≢false none)
      same-leader (u ∷ others) none = elim (cases_Bool ((f v).0 == (f u).0)) as (λ _. (x : VarId) × IsIn x (u ∷ others) × (f v ≡ f x)) [
        | inl same ↦ (u, inl refl, ap (λ n. record { 0 = n }) (eqb-true (f v).0 (f u).0 same))
        | inr differ ↦
            (let found = same-leader others (sym (ap (λ b. not b && list_all (λ (w : VarId). not ((f v).0 == w.0)) (map f others)) differ) ∙ none) in
            (found.0, inr found.1, found.2))
      ]

-- ---- by level
module _ (g : Grammar) (kept : Kept) (f : VarId → VarId) (several : List VarId) where
  abbrev led : List (VarId × VarId)
  led = map (pair_of f) several

  abbrev table : ℕ → List (List VarId)
  table n = told_rows n g kept led

  -- the table tells of each of the variables, where the row isn't Broken over their leaders
  abbrev Tells : ℕ → Type 0
  Tells n = (row : RowId) → IsRowOf g row → (vars : List VarId) → length vars ≡ arity_of row → Apart vars → ((w : VarId) → IsIn w vars → IsIn w several)
      → (read_leaders n kept row (map f vars) ≢ Broken) → (v : VarId) → IsIn v vars → IsIn v (told_at (table n) row)

  none-tells : Tells 0
  unfolding read_leaders
  none-tells row of vars long apart within holds v i = absurd (holds refl)

  module _ (n : ℕ) (below : Tells n) (row : RowId) (of : IsRowOf g row) (vars : List VarId) (long : length vars ≡ arity_of row) (apart : Apart vars) (within : (w : VarId) → IsIn w vars → IsIn w several) where
    abbrev leaders : List VarId
    leaders = map f vars

    abbrev lower : RowId → List VarId → State
    lower = read_leaders n kept

    stands : (v : VarId) → IsIn v vars → is_told kept led (table n) row (pair_of f v) ≡ true → IsIn v (told_at (table (suc n)) row)
    unfolding told_rows
    stands v i h =
        let test = is_told kept led (table n) row in
        let first : VarId × VarId → VarId = λ pair. pair.0 in
        subst (IsIn v) (sym (row-at g (told_row kept led (table n)) row of))
        (in_map first (pair_of f v) (filter test led) (in_filter test (pair_of f v) led (in_map (pair_of f) v several (within v i)) h))

    abbrev slots : List Slot
    slots = filter (is_met led row) kept.slots

    told-known : all_known kept.known leaders ≡ true → (v : VarId) → IsIn v vars → is_told kept led (table n) row (pair_of f v) ≡ true
    told-known h v i =
        or_left (is_some (known_at kept.known (f v)) || stands_in slots (f v)) (may_follow (table n) row v)
        (or_left (is_some (known_at kept.known (f v))) (stands_in slots (f v)) (all-at (λ a. is_some (known_at kept.known a)) (f v) leaders (in_map f v vars i) h))

    told-slot : (s : State) → slot_at kept.slots row leaders ≡ Some s → (v : VarId) → IsIn v vars → is_told kept led (table n) row (pair_of f v) ≡ true
    told-slot s h v i =
        let slot : Slot = record { row = row; leaders = leaders; state = s } in
        let c = slot_found kept.slots row leaders s h in
        let met : is_met led row slot ≡ true = and_from (row.0 == row.0) (are_distinct leaders || list_any (leads_several led) leaders) (eq-eqb row.0 row.0 refl)
        (elim (cases_Bool (are_distinct leaders)) as (λ _. are_distinct leaders || list_any (leads_several led) leaders ≡ true) [
          | inl differ ↦ or_left (are_distinct leaders) (list_any (leads_several led) leaders) differ
          | inr twice ↦ or_right (are_distinct leaders) (list_any (leads_several led) leaders) (several-lead f several vars apart within twice)
        ]) in
        or_left (is_some (known_at kept.known (f v)) || stands_in slots (f v)) (may_follow (table n) row v)
        (or_right (is_some (known_at kept.known (f v))) (stands_in slots (f v))
        (any-at (λ (t : Slot). has t.leaders (f v)) slot slots (in_filter (is_met led row) slot kept.slots (is_in slot kept.slots c.0 c.1 c.2) met) (has-of (f v) leaders (in_map f v vars i))))

    -- a premise that fits may fit
    module _ (r : Rule) (is_rule : IsIn r rules) (same : r.0.0 ≡ row.0) (p : Premise) (of_rule : IsIn p r.1) (fit : premise_fits lower p leaders ≡ true) where
      is_premise : IsPremise r p
      is_premise = is-premise r is_rule p of_rule

      there : (role : ℕ) → IsIn role (roles_read p) → role < length vars
      there role i =
          let l = ltb-true role (arity_of r.0) (all-at (λ m. nat_lt m (arity_of r.0)) role (roles_read p) i is_premise.there) in
          let rows-same : arity_of r.0 ≡ arity_of row = ap (λ m. arity_of (record { 0 = m })) same in
          omega (arith, l, rows-same, long)

      abbrev asked : List VarId
      asked = picked vars (roles_read p)

      premise-tells : (u : VarId) → IsIn u asked → IsIn u (told_at (table n) (row_of p))
      premise-tells u i =
          below (row_of p) (of-both g (row_of p) is_premise.low is_premise.high) asked (length-map (roles_read p) (λ role. at_role role vars) ∙ is_premise.long)
          (picked-apart vars apart (roles_read p) is_premise.apart there) (λ w j. within w (picked-in vars (roles_read p) there w j))
          (λ broken.
          let given : premise_fits lower p leaders ≡ suffices p (lower (row_of p) (map f asked)) =
          ap (λ vs. suffices p (lower (row_of p) vs)) (vars-picked p leaders ∙ picked-map f vars (roles_read p) there) in
          true≢false (sym fit ∙ (given ∙ (ap (suffices p) broken ∙ broken_suffices_not p))))
          u i

      may : (k : ℕ) (v : VarId) → at_role k vars ≡ v → may_fit (table n) k v p ≡ true
      may k v at = elim (cases_Bool (reads p k)) as (λ _. may_fit (table n) k v p ≡ true) [
        | inl read ↦
            (let found = any-found (λ m. m == k) (roles_read p) read in
            let there_at : at_role found.0 vars ≡ v = ap (λ m. at_role m vars) (eqb-true found.0 k found.2) ∙ at in
            let i : IsIn v asked = subst (λ u. IsIn u asked) there_at (in_map {X = ℕ} {Y = VarId} (λ role. at_role role vars) found.0 (roles_read p) found.1) in
            ap (λ b. if b then has (told_at (table n) (row_of p)) v else not (is_empty (told_at (table n) (row_of p)))) read
            ∙ has-of v (told_at (table n) (row_of p)) (premise-tells v i))
        | inr unread ↦
            ap (λ b. if b then has (told_at (table n) (row_of p)) v else not (is_empty (told_at (table n) (row_of p)))) unread
            ∙ (let first = first-of (roles_read p) is_premise.some in
            some-in (at_role first.0 vars) (told_at (table n) (row_of p)) (premise-tells (at_role first.0 vars) (in_map {X = ℕ} {Y = VarId} (λ role. at_role role vars) first.0 (roles_read p) first.1)))
      ]
        where
          first-of : (roles : List ℕ) → not (is_empty roles) ≡ true → (m : ℕ) × IsIn m roles
          first-of [] h = absurd (false≢true h)
          first-of (m ∷ roles) h = (m, inl refl)

    told-follows : is_suppressed lower row leaders ≡ true → (v : VarId) → IsIn v vars → is_told kept led (table n) row (pair_of f v) ≡ true
    told-follows h v i =
        let found = any-found (λ (r : Rule). r.0.0 == row.0 && list_all (λ p. premise_fits lower p leaders) r.1) rules h in
        let r : Rule = found.0 in
        let parts = and_parts (r.0.0 == row.0) (list_all (λ p. premise_fits lower p leaders) r.1) found.2 in
        let same = eqb-true r.0.0 row.0 parts.0 in
        let place = place-of v vars i in
        let all : all_may_fit (table n) place.0 v r.1 ≡ true =
        all-of (may_fit (table n) place.0 v) r.1 (λ p j. may r found.1 same p j (all-at (λ q. premise_fits lower q leaders) p r.1 j parts.1) place.0 v place.2) in
        or_right (is_some (known_at kept.known (f v)) || stands_in slots (f v)) (may_follow (table n) row v)
        (any-at (λ (s : Rule). s.0.0 == row.0 && may_follow_by (table n) (arity_of row) v s.1) r rules found.1
        (and_from (r.0.0 == row.0) (may_follow_by (table n) (arity_of row) v r.1) parts.0 (at-place place.0 v r.1 (let l = place.1 in omega (arith, l, long)) all)))
      where
        at-place : (k : ℕ) (u : VarId) (premises : List Premise) → k < arity_of row → all_may_fit (table n) k u premises ≡ true → may_follow_by (table n) (arity_of row) u premises ≡ true
        at-place zero u premises l all =
            or_left (all_may_fit (table n) 0 u premises || (nat_lt 1 (arity_of row) && all_may_fit (table n) 1 u premises)) (nat_lt 2 (arity_of row) && all_may_fit (table n) 2 u premises)
            (or_left (all_may_fit (table n) 0 u premises) (nat_lt 1 (arity_of row) && all_may_fit (table n) 1 u premises) all)
        at-place (suc zero) u premises l all =
            or_left (all_may_fit (table n) 0 u premises || (nat_lt 1 (arity_of row) && all_may_fit (table n) 1 u premises)) (nat_lt 2 (arity_of row) && all_may_fit (table n) 2 u premises)
            (or_right (all_may_fit (table n) 0 u premises) (nat_lt 1 (arity_of row) && all_may_fit (table n) 1 u premises)
            (and_from (nat_lt 1 (arity_of row)) (all_may_fit (table n) 1 u premises) (lt-ltb 1 (arity_of row) l) all))
        at-place (suc (suc zero)) u premises l all =
            or_right (all_may_fit (table n) 0 u premises || (nat_lt 1 (arity_of row) && all_may_fit (table n) 1 u premises)) (nat_lt 2 (arity_of row) && all_may_fit (table n) 2 u premises)
            (and_from (nat_lt 2 (arity_of row)) (all_may_fit (table n) 2 u premises) (lt-ltb 2 (arity_of row) l) all)
        at-place (suc (suc (suc k))) u premises l all = (let few = few_roles (template_of row).takes in absurd (omega (arith, few, l)))

    -- in written order
    written-tells : (read_written kept lower row leaders ≢ Broken) → (v : VarId) → IsIn v vars → IsIn v (told_at (table (suc n)) row)
    written-tells holds v i = stands v i (elim (cases_Bool (all_known kept.known leaders)) as (λ _. is_told kept led (table n) row (pair_of f v) ≡ true) [
      | inl known ↦ told-known known v i
      | inr varies ↦ by-slot (slot_at kept.slots row leaders) refl (λ e. holds (ap (λ b. if b then state_of_one row (known_tuple kept.known leaders) else read_slot (slot_at kept.slots row leaders) (is_suppressed lower row leaders) (counted_by kept.held leaders)) varies ∙ e))
    ])
      where
        by-slot : (o : Option State) → slot_at kept.slots row leaders ≡ o → (read_slot (slot_at kept.slots row leaders) (is_suppressed lower row leaders) (counted_by kept.held leaders) ≢ Broken)
            → is_told kept led (table n) row (pair_of f v) ≡ true
        by-slot (Some s) e unbroken = told-slot s e v i
        by-slot None e unbroken = elim (cases_Bool (is_suppressed lower row leaders)) as (λ _. is_told kept led (table n) row (pair_of f v) ≡ true) [
          | inl follows ↦ told-follows follows v i
          | inr free ↦ absurd (unbroken (ap (λ o. read_slot o (is_suppressed lower row leaders) (counted_by kept.held leaders)) e ∙ ap (λ b. read_slot None b (counted_by kept.held leaders)) free))
        ]

  more-tells : (n : ℕ) → Tells n → Tells (suc n)
  unfolding read_leaders
  more-tells n below row of vars long apart within holds v i =
      let m = moved-written f row vars apart in
      written-tells n below row of m.0 (m.2.long ∙ long) m.2.apart (λ w j. within w (m.2.from w j))
      (λ broken. holds (turned-broken row (map f vars) (read_written kept (read_leaders n kept) row (written_order row (map f vars))) (ap (read_written kept (read_leaders n kept) row) m.1 ∙ broken)))
      v (m.2.to v i)

  pub all-tell : (n : ℕ) → Tells n
  all-tell zero = none-tells
  all-tell (suc n) = more-tells n (all-tell n)
