-- A slot with one sample more, and the first of a run that a sample changes.
use Rattle.std.specs.Prelude.{◌≡◌, ◌↔◌, ◌<◌, ◌≤◌, ◌+◌, ◌&&◌, ℕ, Bool, true, false, All, IsSomeAnd, IsTrue, List, [], ◌∷◌, Some, if◌then◌else◌, length, refl, slice_get, take}
use Rattle.std.proofs.Common.{ap, get_or, subst, sym, ◌∙◌}
use Rattle.std.proofs.lemmas.Bool.{false≢true}
use Rattle.std.proofs.lemmas.List.{take_all}
use Rattle.std.proofs.lemmas.List.Elements.{All-more}
use Rattle.std.proofs.lemmas.Option.{none-some, slice_get_read}
use Rattle.dk_base.specs.Values.{kind_of}
use Rattle.dk_base.specs.Values.Tuples.{value_at}
use Rattle.dk_base.specs.declared.kinds.Kind.{Kind}
use Rattle.dk_base.specs.declared.kinds.VarId.{VarId}
use Rattle.dk_base.specs.declared.values.Value.{Value}
use Rattle.dk_base.specs.declared.values.Value.TheVariants as value
use Rattle.dk_forms.specs.declared.states.State.{State}
use Rattle.dk_grammar.specs.Runs.{IsFirstWithout, IsSlot, Stays, with_tuple}
use Rattle.dk_instances.specs.Fits.{is_whole, tuple_in}
use Rattle.dk_samples.specs.Samples.{is_present}
use Rattle.dk_template.specs.Joins.{joined}
use Rattle.dk_template.specs.Rows.{IsTuple}
use Rattle.dk_template.specs.declared.templates.StateForm.{StateForm}

-- ---- whether a value is missing, told by its kind
-- a value of a kind isn't missing
present : (x : Value) {kind : Kind} → kind_of x ≡ Some kind → is_present x ≡ true
present value.Missing {kind} e = absurd (none-some kind e)
present (value.Bool b) e = refl
present (value.Int z) e = refl
present (value.Hash n) e = refl
present (value.Str s) e = refl
present (value.BoolSeq bs) e = refl
present (value.IntSeq zs) e = refl
present (value.HashSeq ns) e = refl
present (value.StrSeq ss) e = refl

same_test : (b w : Bool) → (b ≡ true → w ≡ true) → (w ≡ true → b ≡ true) → b ≡ w
same_test true w to from = sym (to refl)
same_test false true to from = from refl
same_test false false to from = refl

-- a tuple of which a value isn't of its kind isn't whole
pub lacks : (kinds : List Kind) (tuple : List Value) → (is_whole tuple ≡ true → IsTuple kinds tuple) → (role : ℕ) (kind : Kind) → slice_get kinds role ≡ Some kind
    → {b : Bool} → IsTrue b ↔ (kind_of (value_at tuple role) ≡ Some kind) → b ≡ false → false ≡ is_whole tuple
lacks kinds tuple is role kind at {b} tells not_of =
    same_test false (is_whole tuple) (λ t. absurd (false≢true t)) (λ w. sym not_of ∙ tells.1 ((is w).each role ∙ at))

pub whole_one : (a : Kind) (x : Value) → (is_whole (x ∷ []) ≡ true → IsTuple (a ∷ []) (x ∷ [])) → {b : Bool} → IsTrue b ↔ (kind_of x ≡ Some a) → b ≡ is_whole (x ∷ [])
whole_one a x is {b} tells = same_test b (is_whole (x ∷ [])) (λ t. ap (λ p. p && true) (present x (tells.0 t))) (λ w. tells.1 ((is w).each 0))

pub whole_two : (a c : Kind) (x y : Value) → (is_whole (x ∷ y ∷ []) ≡ true → IsTuple (a ∷ c ∷ []) (x ∷ y ∷ [])) → kind_of x ≡ Some a
    → {b : Bool} → IsTrue b ↔ (kind_of y ≡ Some c) → b ≡ is_whole (x ∷ y ∷ [])
whole_two a c x y is first {b} tells =
    same_test b (is_whole (x ∷ y ∷ [])) (λ t. ap (λ p. p && (is_present y && true)) (present x first) ∙ ap (λ p. p && true) (present y (tells.0 t)))
    (λ w. tells.1 ((is w).each 1))

pub whole_three : (a c d : Kind) (x y z : Value) → (is_whole (x ∷ y ∷ z ∷ []) ≡ true → IsTuple (a ∷ c ∷ d ∷ []) (x ∷ y ∷ z ∷ [])) → kind_of x ≡ Some a → kind_of y ≡ Some c
    → {b : Bool} → IsTrue b ↔ (kind_of z ≡ Some d) → b ≡ is_whole (x ∷ y ∷ z ∷ [])
whole_three a c d x y z is first second {b} tells =
    same_test b (is_whole (x ∷ y ∷ z ∷ []))
    (λ t. ap (λ p. p && (is_present y && (is_present z && true))) (present x first) ∙ ap (λ p. p && (is_present z && true)) (present y second) ∙ ap (λ p. p && true) (present z (tells.0 t)))
    (λ w. tells.1 ((is w).each 2))

-- ---- one slot
-- the values of its variables, if none is missing, are a tuple of the kinds
pub tuple_of_slot : {kinds : List Kind} {form : StateForm} {sample : List Value} {vars : List VarId} {state : State} (tuple : List Value)
    → IsSlot kinds form sample vars state → tuple ≡ tuple_in vars sample → is_whole tuple ≡ true → IsTuple kinds tuple
tuple_of_slot {kinds = kinds} tuple slot e w = subst (IsTuple kinds) (sym e) (slot.tuple (ap is_whole (sym e) ∙ w))

-- where none is missing, a test of the join tells whether the sample leaves the state as it is
pub stays_whole : (form : StateForm) (state_of : List (List Value) → State) (sample : List Value) (vars : List VarId) (state : State) (tuple : List Value) {result : Bool}
    → tuple ≡ tuple_in vars sample → is_whole tuple ≡ true → IsTrue result ↔ (joined form state (state_of (tuple ∷ [])) ≡ state) → IsTrue result ↔ Stays form state_of sample vars state
stays_whole form state_of sample vars state tuple {result} e w h =
    subst (λ t. IsTrue result ↔ (with_tuple form state_of t state ≡ state)) e
    (subst (λ b. IsTrue result ↔ ((if b then joined form state (state_of (tuple ∷ [])) else state) ≡ state)) (sym w) h)

-- where one is missing, it does
pub stays_else : (form : StateForm) (state_of : List (List Value) → State) (sample : List Value) (vars : List VarId) (state : State) (tuple : List Value)
    → tuple ≡ tuple_in vars sample → is_whole tuple ≡ false → IsTrue true ↔ Stays form state_of sample vars state
stays_else form state_of sample vars state tuple e w =
    subst (λ t. IsTrue true ↔ (with_tuple form state_of t state ≡ state)) e
    (subst (λ b. IsTrue true ↔ ((if b then joined form state (state_of (tuple ∷ [])) else state) ≡ state)) (sym w) ((λ h. refl), (λ h. refl)))

-- ---- a run
module _ {S : Type 0} (P : S → Type 0) (run : List S) (n : ℕ) (slot : S) (within : n < length run) (is : slot ≡ get_or run n slot) (before : All P (take n run)) where
  -- one slot more of which it holds
  pub more_stay : P slot → All P (take (n + 1) run)
  more_stay h = All-more P run n slot within before (subst P is h)

  -- the first of which it doesn't
  pub first_here : ¬ P slot → IsFirstWithout P run (Some n)
  first_here h = (before, subst (λ o. IsSomeAnd o (λ x. ¬ P x)) (sym (slice_get_read run (length run) n slot refl within is)) h)

pub all_stay : {S : Type 0} (P : S → Type 0) (run : List S) (n : ℕ) → length run ≤ n → All P (take n run) → All P run
all_stay P run n past h = subst (All P) (take_all n run past) h

-- ---- what is read of a slot
-- it is one, as each of the run is
pub slot_read : (kinds : List Kind) (form : StateForm) (sample : List Value) {S : Type 0} (vars : S → List VarId) (state : S → State) (run : List S) (n : ℕ) (slot : S)
    → n < length run → slot ≡ get_or run n slot → All (λ s. IsSlot kinds form sample (vars s) (state s)) run
    → (read_vars : List VarId) (read_state : State) → read_vars ≡ vars slot → read_state ≡ state slot → IsSlot kinds form sample read_vars read_state
slot_read kinds form sample vars state run n slot within is all read_vars read_state v s =
    subst (λ w. IsSlot kinds form sample w read_state) (sym v) (subst (λ t. IsSlot kinds form sample (vars slot) t) (sym s)
    (subst (λ x. IsSlot kinds form sample (vars x) (state x)) (sym is) (all n slot within)))

module _ (form : StateForm) (state_of : List (List Value) → State) (sample : List Value) {vars read_vars : List VarId} {state read_state : State} (v : read_vars ≡ vars) (s : read_state ≡ state) {result : Bool}
    (tells : IsTrue result ↔ Stays form state_of sample read_vars read_state) where
  tells_slot : IsTrue result ↔ Stays form state_of sample vars state
  tells_slot = subst (λ w. IsTrue result ↔ Stays form state_of sample w state) v (subst (λ t. IsTrue result ↔ Stays form state_of sample read_vars t) s tells)

  pub it_stays : result ≡ true → Stays form state_of sample vars state
  it_stays h = tells_slot.0 h

  pub it_changes : result ≡ false → ¬ Stays form state_of sample vars state
  it_changes h stays = false≢true (sym h ∙ tells_slot.1 stays)
