-- One level of reading.
use Rattle.std.specs.Prelude.{◌≡◌, ◌<◌, ◌-◌, ℕ, zero, suc, true, false, List, [], ◌∷◌, drop, if◌then◌else◌, nat_le, nat_lt, refl}
use Rattle.std.proofs.Common.{ap, ◌∙◌, arith, sym}
use Rattle.std.proofs.lemmas.Bool.{and_parts, eq-eqb, false_from_ne_true, leb-true, ltb-true, ne_eqb}
use Rattle.dk_base.specs.declared.kinds.VarId.{VarId}
use Rattle.dk_forms.specs.declared.states.State.{State}
use Rattle.dk_forms.specs.declared.states.State.TheVariants as state
use Rattle.dk_presence.specs.Patterns.{counted_by}
use Rattle.dk_suppress.specs.Rules.{is_suppressed}
use Rattle.dk_template.specs.Admitted.{ascend, exchangeable, is_written}
use Rattle.dk_template.specs.Exchange.{arrange_tuple, descends, disarrange_state, exchange, exchanged_back, exchanged_state, order_tuple, turned_state, written_order}
use Rattle.dk_template.specs.Templates.{template_of}
use Rattle.dk_template.specs.declared.exchange.Exchange.{Exchange}
use Rattle.dk_template.specs.declared.exchange.Exchange.TheVariants.{First, Last}
use Rattle.dk_template.specs.declared.grammar.RowId.{RowId}
use Rattle.dk_template.specs.declared.templates.Symmetry.{Symmetry}
use Rattle.dk_template.specs.declared.templates.Symmetry.TheVariants as symmetry
use Rattle.dk_engine.specs.Reading.{read_leaders, read_slot, read_written, state_of_one, state_read}
use Rattle.dk_engine.specs.Reading.Parts.{all_known, known_tuple, leaders_of, slot_at}
use Rattle.dk_engine.specs.declared.kept.Kept.{Kept}

-- ---- a level
pub level_is : (n : ℕ) → 0 < n → (kept : Kept) (row : RowId) (vars : List VarId) → turned_state row vars (read_written kept (read_leaders (n - 1) kept) row (written_order row vars)) ≡ read_leaders n kept row vars
unfolding read_leaders
level_is zero l kept row vars = absurd (omega (arith, l))
level_is (suc n) l kept row vars = ap (λ m. turned_state row vars (read_written kept (read_leaders m kept) row (written_order row vars))) (less n)
  where
    less : (n : ℕ) → suc n - 1 ≡ n
    less n = omega arith

-- ---- a tuple in written order
ordered : (v w : VarId) → nat_le v.0 w.0 ≡ true → nat_lt w.0 v.0 ≡ false
ordered v w le = false_from_ne_true (nat_lt w.0 v.0) (λ lt.
    let up = leb-true v.0 w.0 le in
    let down = ltb-true w.0 v.0 lt in
    absurd (omega (arith, up, down)))

-- no exchange puts it in order
ascends : (e : Exchange) (vars : List VarId) → ascend vars ≡ true → descends e vars ≡ false
ascends First [] up = refl
ascends First (v ∷ []) up = refl
ascends First (v ∷ w ∷ rest) up = ordered v w (and_parts (nat_le v.0 w.0) _ up).0
ascends Last [] up = refl
ascends Last (u ∷ []) up = refl
ascends Last (u ∷ v ∷ []) up = refl
ascends Last (u ∷ v ∷ w ∷ rest) up = ordered v w (and_parts (nat_le v.0 w.0) _ (and_parts (nat_le u.0 v.0) _ up).1).0

last_ascends : (vars : List VarId) → ascend (drop 1 vars) ≡ true → descends Last vars ≡ false
last_ascends [] up = refl
last_ascends (u ∷ []) up = refl
last_ascends (u ∷ v ∷ []) up = refl
last_ascends (u ∷ v ∷ w ∷ rest) up = ordered v w (and_parts (nat_le v.0 w.0) _ up).0

module _ (e : Exchange) (vars : List VarId) (up : descends e vars ≡ false) where
  order_stays : order_tuple e vars ≡ vars
  order_stays = ap (λ b. if b then exchange e vars else vars) up

  state_stays : (s : State) → exchanged_back e vars s ≡ s
  state_stays s = ap (λ b. if b then exchanged_state e s else s) up

-- so that it is its own written order, and a state of it stays as it is
arranged : (s : Symmetry) (vars : List VarId) → ascend (exchangeable s vars) ≡ true → (arrange_tuple s vars ≡ vars) × ((t : State) → disarrange_state s vars t ≡ t)
arranged symmetry.Fixed vars up = (refl, λ t. refl)
arranged symmetry.All vars up =
    let last = ascends Last vars up in
    let first = ascends First vars up in
    let one = order_stays Last vars last in
    let two = order_stays First vars first in (
      ap (λ vs. order_tuple Last (order_tuple First vs)) one ∙ (ap (order_tuple Last) two ∙ one),
      λ t. state_stays Last vars last (exchanged_back First (order_tuple Last vars) (exchanged_back Last (order_tuple First (order_tuple Last vars)) t))
          ∙ (ap (λ vs. exchanged_back First vs (exchanged_back Last (order_tuple First vs) t)) one
          ∙ (state_stays First vars first (exchanged_back Last (order_tuple First vars) t) ∙ (ap (λ vs. exchanged_back Last vs t) two ∙ state_stays Last vars last t))),
    )
arranged symmetry.Arguments vars up =
    let last = last_ascends vars up in
    (order_stays Last vars last, state_stays Last vars last)

-- the state of leaders in written order is what is read of them as they stand
pub written_read : (n : ℕ) → 0 < n → (kept : Kept) (row : RowId) (vars : List VarId) → is_written row vars ≡ true → read_written kept (read_leaders (n - 1) kept) row vars ≡ read_leaders n kept row vars
written_read n some kept row vars written =
    let lower = read_leaders (n - 1) kept in
    let told = arranged (template_of row).symmetry vars written in
    ap (read_written kept lower row) (sym told.0) ∙ (sym (told.1 (read_written kept lower row (written_order row vars))) ∙ level_is n some kept row vars)

-- of constants it is that of their tuple
pub constants_read : (n : ℕ) → 0 < n → (kept : Kept) (row : RowId) (vars : List VarId) → is_written row vars ≡ true → all_known kept.known vars ≡ true → state_of_one row (known_tuple kept.known vars) ≡ read_leaders n kept row vars
constants_read n some kept row vars written known =
    let lower = read_leaders (n - 1) kept in
    sym (ap (λ b. if b then state_of_one row (known_tuple kept.known vars) else read_slot (slot_at kept.slots row vars) (is_suppressed lower row vars) (counted_by kept.held vars)) known)
    ∙ written_read n some kept row vars written

-- ---- any variables
-- before the first sample each state is Empty
pub read_none : (kept : Kept) (row : RowId) (vars : List VarId) → kept.samples ≡ 0 → state.Empty ≡ state_read kept row vars
unfolding state_read
read_none kept row vars none = sym (ap (λ b. if b then state.Empty else read_leaders 4 kept row (leaders_of kept.leaders vars)) (eq-eqb kept.samples 0 none))

-- and then it is that of the leaders
pub read_some : (kept : Kept) (row : RowId) (vars : List VarId) → (kept.samples ≡ 0 → ⊥) → read_leaders 4 kept row (leaders_of kept.leaders vars) ≡ state_read kept row vars
unfolding state_read
read_some kept row vars some = sym (ap (λ b. if b then state.Empty else read_leaders 4 kept row (leaders_of kept.leaders vars)) (ne_eqb kept.samples 0 some))
