-- The text of an instance tells its row and its variables.
use Rattle.std.specs.Prelude.{◌≡◌, ◌<◌, ◌≤◌, ◌-◌, ◌&&◌, ◌==◌, ℕ, zero, suc, nat_lt, Bool, true, false, not, List, [], ◌∷◌, flat_map, length, map, slice_get, slice_index_or, zip, refl}
use Rattle.std.specs.List.{list_all}
use Rattle.std.proofs.Common.{inl, inr, ◌∙◌, ap, sym, subst, arith, get_or}
use Rattle.std.proofs.lemmas.Bool.{and_parts, cases_lt, eq-eqb, eqb-true, false≢true, ltb-true}
use Rattle.std.proofs.lemmas.List.{ext_get_or, get_or-map, get_or_past, length-map}
use Rattle.std.proofs.lemmas.List.Folds.{list_all_at}
use Rattle.dk_base.specs.declared.kinds.VarId.{VarId}
use Rattle.dk_base.specs.declared.kinds.VarInfo.{VarInfo}
use Rattle.dk_filters.proofs.Asked.{admitted-there}
use Rattle.dk_filters.specs.Facts.{info_at, no_info}
use Rattle.dk_instances.proofs.Whole.{kind_alike}
use Rattle.dk_instances.specs.Instances.{IsInstance, are_distinct}
use Rattle.dk_forms.specs.declared.states.State.{State}
use Rattle.dk_template.proofs.WrittenTuples.{admitted_arity}
use Rattle.dk_template.specs.Admitted.{admits, is_written, suits}
use Rattle.dk_template.specs.Templates.{arity_of, kind_of, role_kinds, roles_of, rows, rows_in, template_of}
use Rattle.dk_template.specs.declared.grammar.Grammar.{Grammar}
use Rattle.dk_template.specs.declared.grammar.Grammar.TheVariants as grammar
use Rattle.dk_template.specs.declared.grammar.RowId.{RowId}
use Rattle.dk_template.specs.declared.templates.Role.{Role}
use Rattle.dk_print.specs.Laws.{NamesTell, TellsStrings, TextsTellInstances}
use Rattle.dk_print.specs.Names.{is_plain_name}
use Rattle.dk_print.specs.Parts.{Part, word, named, bound, values, null_or, remainder, modulus, lead, term, constant, step, name_at, text_by}
use Rattle.dk_print.specs.Texts.{parts_of_row, row_text, row_texts, var_names}
use Rattle.dk_print.proofs.Alike.{kind_number, length-numbers, number_at, numbers, passes, row}
use Rattle.dk_print.proofs.Formed.{AllNamesPlain, Formed, In, NamesPlain, in-flat_map, in-map, text-formed}
use Rattle.dk_print.proofs.Forms.{lines_of}
use Rattle.dk_print.proofs.Settled.{Entry, Known, Same, is_settled, kind_at, settled}
use Rattle.dk_print.proofs.TokenWords.{line-of, words}
use Rattle.dk_print.proofs.Tokens.{Spells, Token}

-- ---- every two lines of the table are settled
abbrev kind_numbers : RowId → List ℕ
kind_numbers r = map kind_number (role_kinds r)

abbrev entry_at : ℕ → List Token → Entry
entry_at n ts = record { row = n; kinds = kind_numbers (row n); line = words ts }

entries_of : ℕ → List Entry
entries_of n = map (entry_at n) (lines_of (parts_of_row (row n)))

entries : List Entry
entries = flat_map entries_of numbers

all_settled : list_all (λ e. list_all (is_settled e) entries) entries ≡ true
unfolding entries entries_of numbers kind_number row_texts rows
all_settled = refl

-- no part names a role behind the last one
within : ℕ → Part → Bool
within n (named role) = nat_lt role n
within n (lead role) = nat_lt role n
within n (term role) = nat_lt role n
within n p = true

all_within : list_all (λ n. list_all (within (arity_of (row n))) (parts_of_row (row n))) numbers ≡ true
unfolding numbers within row_texts rows
all_within = refl

all-in : {A : Type 0} (p : A → Bool) (xs : List A) → list_all p xs ≡ true → (x : A) → In xs x → p x ≡ true
all-in p [] h x i = elim i [ ]
all-in p (y ∷ xs) h x (inl e) = sym (ap p e) ∙ (and_parts (p y) (list_all p xs) h).0
all-in p (y ∷ xs) h x (inr i) = all-in p xs (and_parts (p y) (list_all p xs) h).1 x i

in-at : (xs : List ℕ) (k d : ℕ) → k < length xs → In xs (get_or xs k d)
in-at [] k d h = absurd (omega arith)
in-at (x ∷ xs) zero d h = inl refl
in-at (x ∷ xs) (suc k) d h = inr (in-at xs k d (omega arith))

in-numbers : (n : ℕ) → 1 ≤ n → n ≤ 68 → In numbers n
in-numbers n low high = let long = length-numbers in subst (In numbers) (number_at n low high) (in-at numbers (n - 1) 0 (omega arith))

entry-in : (n : ℕ) → 1 ≤ n → n ≤ 68 → (ts : List Token) → In (lines_of (parts_of_row (row n))) ts → In entries (entry_at n ts)
unfolding entries entries_of
entry-in n low high ts i = in-flat_map entries_of numbers n (entry_at n ts) (in-numbers n low high) (in-map (entry_at n) (lines_of (parts_of_row (row n))) ts i)

-- ---- instances
no_var : VarId
no_var = record { 0 = 0 }

abbrev var_at : List VarId → ℕ → VarId
var_at vars i = slice_index_or vars i no_var

first-again : (v : VarId) (vars : List VarId) (j : ℕ) → j < length vars → v ≡ var_at vars j → list_all (λ (w : VarId). not (v.0 == w.0)) vars ≡ false
first-again v vars j lt is = list_all_at (λ (w : VarId). not (v.0 == w.0)) vars j no_var lt (ap not (eq-eqb v.0 (var_at vars j).0 (ap (λ (w : VarId). w.0) is)))

distinct-at : (vars : List VarId) → are_distinct vars ≡ true → (i j : ℕ) → i < length vars → j < length vars → var_at vars i ≡ var_at vars j → i ≡ j
distinct-at [] h i j p q e = absurd (omega arith)
distinct-at (v ∷ vars) h zero zero p q e = refl
distinct-at (v ∷ vars) h zero (suc j) p q e = absurd (false≢true (sym (first-again v vars j (omega arith) e) ∙ (and_parts _ (are_distinct vars) h).0))
distinct-at (v ∷ vars) h (suc i) zero p q e = absurd (false≢true (sym (first-again v vars i (omega arith) (sym e)) ∙ (and_parts _ (are_distinct vars) h).0))
distinct-at (v ∷ vars) h (suc i) (suc j) p q e = ap suc (distinct-at vars (and_parts _ (are_distinct vars) h).1 i j (omega arith) (omega arith) e)

suited-kind : (role : Role) (infos : List VarInfo) (i : ℕ) → suits role (slice_get infos i) ≡ true → (slice_index_or infos i no_info).kind ≡ kind_of role
suited-kind role [] i h = absurd (false≢true h)
suited-kind role (x ∷ infos) zero h = kind_alike x.kind (kind_of role) (and_parts _ _ h).0
suited-kind role (x ∷ infos) (suc i) h = suited-kind role infos i h

module _ (infos : List VarInfo) where
  abbrev kind_of_var : VarId → ℕ
  kind_of_var v = kind_number (info_at infos v).kind

  suited-kinds : (roles : List Role) (vars : List VarId) → length vars ≡ length roles → list_all (λ (p : Role × VarId). suits p.0 (slice_get infos p.1.0)) (zip roles vars) ≡ true
      → map kind_number (map kind_of roles) ≡ map kind_of_var vars
  suited-kinds [] [] long h = refl
  suited-kinds [] (v ∷ vars) long h = absurd (omega (arith, long))
  suited-kinds (role ∷ roles) [] long h = absurd (omega (arith, long))
  suited-kinds (role ∷ roles) (v ∷ vars) long h =
      let both = and_parts (suits role (slice_get infos v.0)) (list_all (λ (p : Role × VarId). suits p.0 (slice_get infos p.1.0)) (zip roles vars)) h in
      let first = ap kind_number (suited-kind role infos v.0 both.0) in
      let rest = suited-kinds roles vars (omega (arith, long)) both.1 in
      λ i. sym first i ∷ rest i

  admitted-kinds : (r : RowId) (vars : List VarId) → admits r infos vars ≡ true → kind_numbers r ≡ map kind_of_var vars
  admitted-kinds r vars h =
      let roles = roles_of (template_of r).takes in
      let both = and_parts (length vars == length roles) (list_all (λ (p : Role × VarId). suits p.0 (slice_get infos p.1.0)) (zip roles vars)) h in
      suited-kinds roles vars (eqb-true (length vars) (length roles) both.0) both.1

  name-is : (vars : List VarId) (i : ℕ) → i < length vars → name_at (var_names infos vars) i ≡ (info_at infos (var_at vars i)).name
  name-is vars i h = get_or-map (λ v. (info_at infos v).name) vars i no_var [] h

  -- a plain name is that of a variable
  is-there : (vars : List VarId) (i : ℕ) → is_plain_name (name_at (var_names infos vars) i) ≡ true → i < length vars
  is-there vars i plain = elim (cases_lt i (length vars)) as (λ _. i < length vars) [
    | inl lt ↦ lt
    | inr past ↦ absurd (false≢true (sym (ap is_plain_name (get_or_past (var_names infos vars) i [] (subst (λ n. n ≤ i) (sym (length-map vars (λ v. (info_at infos v).name))) past))) ∙ plain))
  ]

  -- what is known of an instance
  record Given (r : RowId) (vars : List VarId) : Type 0 where
    low : 1 ≤ r.0
    high : r.0 ≤ 68
    admitted : admits r infos vars ≡ true
    distinct : are_distinct vars ≡ true

  given : (g : Grammar) (r : RowId) (vars : List VarId) → IsInstance g infos r vars → Given r vars
  given g r vars is =
      let both = and_parts (admits r infos vars) (is_written r vars && are_distinct vars) is.asked in
      record { low = is.of_grammar.0; high = few g is.of_grammar.1; admitted = both.0; distinct = (and_parts (is_written r vars) (are_distinct vars) both.1).1 }
    where
      few : (g : Grammar) → r.0 ≤ rows_in g → r.0 ≤ 68
      few grammar.One h = omega arith
      few grammar.Two h = omega arith

  module _ (tell : NamesTell infos) where
    plain-at : (r : RowId) (vars : List VarId) → Given r vars → (i : ℕ) → i < length vars → is_plain_name (name_at (var_names infos vars) i) ≡ true
    plain-at r vars is i h =
        let there : (var_at vars i).0 < length infos = admitted-there infos r vars is.admitted i no_var h in
        ap is_plain_name (name-is vars i h) ∙ tell.plain (var_at vars i).0 no_info there

    -- variables of one name are one
    one-var : (r q : RowId) (vars others : List VarId) → Given r vars → Given q others → (i j : ℕ) → i < length vars → j < length others
        → name_at (var_names infos vars) i ≡ name_at (var_names infos others) j → var_at vars i ≡ var_at others j
    one-var r q vars others is too i j h k e =
        tell.differ (var_at vars i) (var_at others j) (admitted-there infos r vars is.admitted i no_var h) (admitted-there infos q others too.admitted j no_var k)
        (sym (name-is vars i h) ∙ e ∙ name-is others j k)

    kind-is : (r : RowId) (vars : List VarId) → Given r vars → (i : ℕ) → i < length vars → kind_at (kind_numbers r) i ≡ kind_of_var (var_at vars i)
    kind-is r vars is i h = ap (λ ks. kind_at ks i) (admitted-kinds r vars is.admitted) ∙ get_or-map kind_of_var vars i no_var 0 h

    known : (r q : RowId) (vars others : List VarId) → Given r vars → Given q others → (ts us : List Token) → Known (var_names infos vars) (var_names infos others) (entry_at r.0 ts) (entry_at q.0 us)
    known r q vars others is too ts us = record {
      distinct = λ i j plain e. let h = is-there vars i plain in let k = is-there vars j (sym (ap is_plain_name e) ∙ plain) in distinct-at vars is.distinct i j h k (one-var r r vars vars is is i j h k e);
      distinct_others = λ i j plain e. let h = is-there others i plain in let k = is-there others j (sym (ap is_plain_name e) ∙ plain) in distinct-at others too.distinct i j h k (one-var q q others others too too i j h k e);
      one_kind = λ i j plain e.
          let h = is-there vars i plain in
          let k = is-there others j (sym (ap is_plain_name e) ∙ plain) in
          kind-is r vars is i h ∙ ap kind_of_var (one-var r q vars others is too i j h k e) ∙ sym (kind-is q others too j k);
    }

    part-plain : (names : List (List ℕ)) (n : ℕ) → ((i : ℕ) → i < n → is_plain_name (name_at names i) ≡ true) → (p : Part) → within n p ≡ true → NamesPlain names p
    unfolding within
    part-plain names n plain (word bytes) h = tt
    part-plain names n plain (named role) h = plain role (ltb-true role n h)
    part-plain names n plain bound h = tt
    part-plain names n plain values h = tt
    part-plain names n plain (null_or bytes) h = tt
    part-plain names n plain remainder h = tt
    part-plain names n plain modulus h = tt
    part-plain names n plain (lead role) h = plain role (ltb-true role n h)
    part-plain names n plain (term role) h = plain role (ltb-true role n h)
    part-plain names n plain constant h = tt
    part-plain names n plain step h = tt

    parts-plain : (names : List (List ℕ)) (n : ℕ) → ((i : ℕ) → i < n → is_plain_name (name_at names i) ≡ true) → (ps : List Part) → list_all (within n) ps ≡ true → AllNamesPlain names ps
    unfolding within
    parts-plain names n plain [] h = tt
    parts-plain names n plain (p ∷ ps) h =
        let both = and_parts (within n p) (list_all (within n) ps) h in
        (part-plain names n plain p both.0, parts-plain names n plain ps both.1)

    -- a line of the row spells the text
    formed : (r : RowId) (vars : List VarId) → Given r vars → (s : State) → TellsStrings s → Formed (var_names infos vars) (lines_of (parts_of_row r)) (text_by (parts_of_row r) (var_names infos vars) s)
    formed r vars is s strings =
        let arity = admitted_arity r infos vars is.admitted in
        text-formed (var_names infos vars) s (parts_of_row r) strings (
        parts-plain (var_names infos vars) (arity_of r) (λ i h. plain-at r vars is i (omega (arith, arity))) (parts_of_row r)
        (passes (λ n. list_all (within (arity_of (row n))) (parts_of_row (row n))) all_within r.0 is.low is.high))

    same-instance : (r q : RowId) (vars others : List VarId) → Given r vars → Given q others → (s t : State) → TellsStrings s → TellsStrings t
        → text_by (parts_of_row r) (var_names infos vars) s ≡ text_by (parts_of_row q) (var_names infos others) t → (r ≡ q) × (vars ≡ others)
    same-instance r q vars others is too s t strings texts e =
        let f = formed r vars is s strings in
        let g = formed q others too t texts in
        let names = var_names infos vars in
        let names2 = var_names infos others in
        let e1 = entry_at r.0 f.tokens in
        let e2 = entry_at q.0 g.tokens in
        let pair : is_settled e1 e2 ≡ true =
        all-in (is_settled e1) entries (all-in (λ d. list_all (is_settled d) entries) entries all_settled e1 (entry-in r.0 is.low is.high f.tokens f.among)) e2 (entry-in q.0 too.low too.high g.tokens g.among) in
        let same : Same names names2 e1 e2 =
        settled names names2 e1 e2 pair (known r q vars others is too f.tokens g.tokens) (text_by (parts_of_row r) names s) (line-of names f.tokens (text_by (parts_of_row r) names s) f.spells)
        (line-of names2 g.tokens (text_by (parts_of_row r) names s) (subst (λ x. Spells names2 g.tokens x) (sym e) g.spells)) in
        let one_row : r ≡ q = ap row same.row in
        let long = admitted_arity r infos vars is.admitted in
        let long2 = admitted_arity q infos others too.admitted in
        let lengths : length vars ≡ length others = long ∙ ap arity_of one_row ∙ sym long2 in
        let kinds : length (kind_numbers r) ≡ length vars = ap (λ (ks : List ℕ). length ks) (admitted-kinds r vars is.admitted) ∙ length-map vars kind_of_var in
        (one_row, ext_get_or no_var vars others lengths (λ i h. one-var r q vars others is too i i h (omega (arith, lengths)) (same.names_are i (omega (arith, kinds)))))

pub texts_tell : TextsTellInstances
unfolding row_text
texts_tell g infos tell r q vars others is too s t strings texts e = same-instance infos tell r q vars others (given infos g r vars is) (given infos g q others too) s t strings texts e
