-- What a tuple in written order keeps of the tuple, and that it is written.
use Rattle.std.specs.Prelude.{◌≡◌, ◌≤◌, ◌<◌, ◌-◌, ◌==◌, ℕ, zero, suc, Bool, true, false, nat_lt, if◌then◌else◌, All, List, [], ◌∷◌, length, slice_get, zip, refl}
use Rattle.std.specs.List.{list_all}
use Rattle.std.proofs.Common.{sym, ap, ◌∙◌, arith, get_or, inl, inr, subst}
use Rattle.std.proofs.lemmas.Bool.{and_parts, eqb-true, false≢true, ltb-true}
use Rattle.std.proofs.lemmas.List.Elements.{All-cons, All-head, All-tail}
use Rattle.dk_base.specs.declared.kinds.VarId.{VarId}
use Rattle.dk_base.specs.declared.kinds.VarInfo.{VarInfo}
use Rattle.dk_template.proofs.Table.{length-rows}
use Rattle.dk_template.proofs.WrittenOrder.{arranged_ascends}
use Rattle.dk_template.specs.Admitted.{admits, is_written, suits}
use Rattle.dk_template.specs.Exchange.{arrange_tuple, descends, exchange, order_tuple, written_order}
use Rattle.dk_template.specs.Templates.{IsRow, arity_of, rank_of, roles_of, rows, template_of}
use Rattle.dk_template.specs.declared.exchange.Exchange.{Exchange}
use Rattle.dk_template.specs.declared.exchange.Exchange.TheVariants.{First, Last}
use Rattle.dk_template.specs.declared.grammar.RowId.{RowId}
use Rattle.dk_template.specs.declared.templates.Role.{Role}
use Rattle.dk_template.specs.declared.templates.Symmetry.{Symmetry}
use Rattle.dk_template.specs.declared.templates.Symmetry.TheVariants as symmetry
use Rattle.dk_template.specs.declared.templates.Takes.{Takes}
use Rattle.dk_template.specs.declared.templates.Takes.TheVariants.{One, Two, Three}
use Rattle.dk_template.specs.declared.templates.Template.{Template}

-- ---- each of the variables
module _ (P : VarId → Type 0) where
  swapped_all : (v w : VarId) (rest : List VarId) → All P (v ∷ w ∷ rest) → All P (w ∷ v ∷ rest)
  swapped_all v w rest h =
      let more = All-tail P v (w ∷ rest) h in
      All-cons P w (v ∷ rest) (All-head P w rest more) (All-cons P v rest (All-head P v (w ∷ rest) h) (All-tail P w rest more))

  exchange_all : (e : Exchange) (tuple : List VarId) → All P tuple → All P (exchange e tuple)
  exchange_all First [] h = h
  exchange_all First (v ∷ []) h = h
  exchange_all First (v ∷ w ∷ rest) h = swapped_all v w rest h
  exchange_all Last [] h = h
  exchange_all Last (u ∷ []) h = h
  exchange_all Last (u ∷ v ∷ []) h = h
  exchange_all Last (u ∷ v ∷ w ∷ rest) h = All-cons P u (w ∷ v ∷ rest) (All-head P u (v ∷ w ∷ rest) h) (swapped_all v w rest (All-tail P u (v ∷ w ∷ rest) h))

  ordered_all : (e : Exchange) (tuple : List VarId) → All P tuple → All P (order_tuple e tuple)
  ordered_all e tuple h = elim (descends e tuple) as (λ b. All P (if b then exchange e tuple else tuple)) [ true ↦ exchange_all e tuple h | false ↦ h ]

  arranged_all : (s : Symmetry) (tuple : List VarId) → All P tuple → All P (arrange_tuple s tuple)
  arranged_all symmetry.Fixed tuple h = h
  arranged_all symmetry.All tuple h = ordered_all Last (order_tuple First (order_tuple Last tuple)) (ordered_all First (order_tuple Last tuple) (ordered_all Last tuple h))
  arranged_all symmetry.Arguments tuple h = ordered_all Last tuple h

  -- what holds of each variable of a tuple holds of each in written order
  pub written_all : (row : RowId) (tuple : List VarId) → All P tuple → All P (written_order row tuple)
  written_all row tuple h = arranged_all (template_of row).symmetry tuple h

-- ---- how many there are
pub few_roles : (takes : Takes) → length (roles_of takes) ≤ 3
few_roles (One a) = omega arith
few_roles (Two a b) = omega arith
few_roles (Three a b c) = omega arith

-- a row of neither one role nor two has three
pub arity_three : (row : RowId) → (arity_of row ≡ 1 → ⊥) → (arity_of row ≡ 2 → ⊥) → arity_of row ≡ 3
arity_three row = go (template_of row).takes
  where
    go : (takes : Takes) → (length (roles_of takes) ≡ 1 → ⊥) → (length (roles_of takes) ≡ 2 → ⊥) → length (roles_of takes) ≡ 3
    go (One a) m n = absurd (m refl)
    go (Two a b) m n = absurd (n refl)
    go (Three a b c) m n = refl

-- as many as the row has roles, and so at most three
pub admitted_arity : (row : RowId) (infos : List VarInfo) (tuple : List VarId) → admits row infos tuple ≡ true → length tuple ≡ arity_of row
admitted_arity row infos tuple h =
    let roles = roles_of (template_of row).takes in
    eqb-true (length tuple) (length roles) (and_parts (length tuple == length roles) (list_all (λ (p : Role × VarId). suits p.0 (slice_get infos p.1.0)) (zip roles tuple)) h).0

pub admitted_few : (row : RowId) (infos : List VarInfo) (tuple : List VarId) → admits row infos tuple ≡ true → length tuple ≤ 3
admitted_few row infos tuple h = let long = admitted_arity row infos tuple h in let few = few_roles (template_of row).takes in omega (arith, long, few)

-- ---- a tuple in written order is written
pub written_is_written : (row : RowId) (tuple : List VarId) → length tuple ≤ 3 → is_written row (written_order row tuple) ≡ true
written_is_written row tuple few = arranged_ascends (template_of row).symmetry tuple few

-- ---- ranks
low_ranks : list_all (λ (t : Template). nat_lt t.rank 4) rows ≡ true
unfolding rows
low_ranks = refl

-- the rank of a row is at most 3
pub rank_below : (row : RowId) → IsRow row → rank_of row < 4
rank_below row is =
    let low = is.0 in
    let high = is.1 in
    let all = length-rows in
    ltb-true (rank_of row) 4 (each (λ (t : Template). nat_lt t.rank 4) rows low_ranks (row.0 - 1) _ (omega arith))
  where
    each : (p : Template → Bool) (ts : List Template) → list_all p ts ≡ true → (i : ℕ) (d : Template) → i < length ts → p (get_or ts i d) ≡ true
    each p [] e i d h = absurd (omega (arith, h))
    each p (t ∷ ts) e zero d h = (and_parts (p t) (list_all p ts) e).0
    each p (t ∷ ts) e (suc i) d h = each p ts (and_parts (p t) (list_all p ts) e).1 i d (omega (arith, h))
