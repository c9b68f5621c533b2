-- The lines of a `DECLARE` block, four by four.
use Rattle.std.proofs.Common.{◌≡◌, ◌∙◌, ◌++◌, ◌*◌, ℕ, suc, Bool, true, false, List, [], ◌∷◌, length, Some, Result, Ok, refl, sym, ap, subst, if◌then◌else◌, append_assoc, append-nil, arith}
use Rattle.std.specs.List.{AllZip}
use Rattle.dk_base.specs.Names.{unescaped}
use Rattle.dk_base.specs.Reading.{Line, LineFault}
use Rattle.dk_base.specs.declared.why.Why.TheVariants.{BadVariable}
use Rattle.dk_decl.proofs.LastLines.{bind_ok}
use Rattle.dk_decl.specs.DeclareBlock.{comparability, declare_lines, from_comparability, from_name, from_type, new_name, old_form_var, representation}
use Rattle.dk_decl.specs.Outcomes.{refused}
use Rattle.dk_decl.specs.Positions.{IsDeclaredByFour, LinesCountByPosition, fours}
use Rattle.dk_decl.specs.VarNames.{has_name}
use Rattle.dk_decl.specs.declared.decls.VarDecl.{VarDecl}

named_as : (vs : List VarDecl) (l : Line) (name : List ℕ) → new_name vs l ≡ Ok name → name ≡ unescaped l.bytes
unfolding new_name
named_as vs l name e = go (has_name (unescaped l.bytes) vs) e
  where
    go : (b : Bool) → (if b then refused {A = List ℕ} BadVariable l.number else Ok (unescaped l.bytes)) ≡ Ok name → name ≡ unescaped l.bytes
    go true h = cc
    go false h = cc

-- the variables behind those that are there
record Behind (implicit : Bool) (vs ws : List VarDecl) (ls : List Line) : Type 0 where
  more : List VarDecl
  whole : ws ≡ vs ++ more
  none_left : length ls ≡ 4 * length more
  fourwise : AllZip (IsDeclaredByFour implicit) (fours ls) more

same_list : (r : Result (List VarDecl) LineFault) (x y : List VarDecl) → r ≡ Ok x → r ≡ Ok y → y ≡ x
same_list r x y e h = cc

four_more : (n m : ℕ) → n ≡ 4 * m → suc (suc (suc (suc n))) ≡ 4 * suc m
four_more n m h = omega arith

in_order : (implicit : Bool) (vs : List VarDecl) (ls : List Line) (close : ℕ) (ws : List VarDecl)
    → from_name implicit vs ls (Some close) ≡ Ok ws → Behind implicit vs ws ls
in_order implicit vs [] close ws e = record { more = []; whole = same_list (Ok vs) vs ws refl e ∙ sym (append-nil vs); none_left = refl; fourwise = tt }
in_order implicit vs (a ∷ []) close ws e =
    bind_ok (new_name vs a) (λ name. from_type implicit vs a.number name [] (Some close)) ws e (λ name h short. cc)
in_order implicit vs (a ∷ b ∷ []) close ws e =
    bind_ok (new_name vs a) (λ name. from_type implicit vs a.number name (b ∷ []) (Some close)) ws e (λ name h short. cc)
in_order implicit vs (a ∷ b ∷ c ∷ []) close ws e =
    bind_ok (new_name vs a) (λ name. from_type implicit vs a.number name (b ∷ c ∷ []) (Some close)) ws e (λ name h then_c.
    bind_ok (representation c) (λ r. from_comparability implicit vs a.number name r [] (Some close)) ws then_c (λ r h2 short. cc))
in_order implicit vs (a ∷ b ∷ c ∷ d ∷ ls) close ws e =
    bind_ok (new_name vs a) (λ name. from_type implicit vs a.number name (b ∷ c ∷ d ∷ ls) (Some close)) ws e (λ name named then_c.
    bind_ok (representation c) (λ r. from_comparability implicit vs a.number name r (d ∷ ls) (Some close)) ws then_c (λ r said then_d.
    bind_ok (comparability implicit d) (λ q. from_name implicit (vs ++ old_form_var name r q ∷ []) ls (Some close)) ws then_d (λ q compared rest.
    let v : VarDecl = old_form_var name r q in
    let b = in_order implicit (vs ++ v ∷ []) ls close ws rest in
    record {
      more = v ∷ b.more;
      whole = b.whole ∙ append_assoc vs (v ∷ []) b.more;
      none_left = four_more (length ls) (length b.more) b.none_left;
      fourwise = (record { name = named_as vs a name named; represented = (r, said, record { kind = refl; constant = refl; constant_line = refl }); compar = compared; parents = refl }, b.fourwise);
    })))

pub by_position : LinesCountByPosition
unfolding declare_lines
by_position implicit line point ls close d e =
    bind_ok (from_name implicit [] ls (Some close)) (λ vs. Ok (record { name = unescaped point.bytes; edges = []; vars = vs })) d e (λ vs vars_are whole.
    let b = in_order implicit [] ls close vs vars_are in
    let same : b.more ≡ d.vars = cc in
    let P : List VarDecl → Type 0 = λ vs. AllZip (IsDeclaredByFour implicit) (fours ls) vs in
    record { name = cc; edges = cc; none_left = b.none_left ∙ ap (λ vs. 4 * length vs) same; vars = subst P same b.fourwise })
