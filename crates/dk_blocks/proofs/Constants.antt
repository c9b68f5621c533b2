-- The constants that a declaration gives are values of its variables.
use Rattle.std.proofs.Common.{◌≡◌, ℕ, Bool, true, false, is_some, All, List, [], ◌∷◌, option_map, Option, Some, None, Result, Ok, Err, refl, sym, subst, if◌then◌else◌}
use Rattle.std.proofs.lemmas.List.Elements.{All-cons, All-nil}
use Rattle.std.specs.List.{AllZip}
use Rattle.dk_base.specs.Reading.{Line, LineFault}
use Rattle.dk_base.specs.Values.{value_of_text}
use Rattle.dk_base.specs.declared.kinds.Kind.{Kind}
use Rattle.dk_base.specs.declared.values.Value.{Value}
use Rattle.dk_base.specs.declared.why.Why.TheVariants.{BadVariable}
use Rattle.dk_base.proofs.Written.{read_is_written}
use Rattle.dk_decl.proofs.ByPosition.{by_position}
use Rattle.dk_decl.proofs.LastLines.{bind_ok, last_lines_count}
use Rattle.dk_decl.specs.Blocks.{block_decl, is_declare}
use Rattle.dk_decl.specs.DeclareBlock.{constant_text, declare_lines, represented, representation}
use Rattle.dk_decl.specs.Laws.{IsDeclaredBy, last_constant, last_rep_type}
use Rattle.dk_decl.specs.Outcomes.{or_refused, refused}
use Rattle.dk_decl.specs.Positions.{Four, IsDeclaredByFour}
use Rattle.dk_decl.specs.PptBlock.{groups, ppt_of}
use Rattle.dk_decl.specs.Types.{constant_at, constant_of, is_missing, known, rep_kind, rep_type_of}
use Rattle.dk_decl.specs.declared.decls.EdgeDecl.{EdgeDecl}
use Rattle.dk_decl.specs.declared.decls.PointDecl.{PointDecl}
use Rattle.dk_decl.specs.declared.decls.VarDecl.{VarDecl}
use Rattle.dk_decl.specs.declared.declare.Represented.{Represented}
use Rattle.dk_decl.specs.declared.types.Placed.{Placed}
use Rattle.dk_decl.specs.declared.types.RepType.{RepType}
use Rattle.dk_decl.specs.declared.types.RepType.TheVariants.{Of, Opaque}
use Rattle.dk_base.specs.Words.{first_word}
use Rattle.dk_trace.specs.Fitting.{FitsKind, HasFittingConstant}
use Rattle.dk_blocks.specs.Fitting.{HasFittingConstants}

-- a constant that is read is a value of its variable's kind
constant_fits : (rep : RepType) (o : Option Placed) (c : Option Value) → constant_at rep o ≡ Ok c → is_some o ≡ true → FitsKind (rep_kind rep) c
unfolding constant_at constant_of
constant_fits rep None c e has = absurd (cc has)
constant_fits (Of k) (Some p) c e has = by (value_of_text k p.text) refl e
  where
    there : (v : Value) → value_of_text k p.text ≡ Some v → (b : Bool) → (if b then refused BadVariable p.line else Ok (Some v)) ≡ Ok c → FitsKind (Some k) c
    there v is true e = absurd (cc e)
    there v is false e = let same : Some v ≡ c = cc e in subst (FitsKind (Some k)) same (read_is_written k p.text v is)

    by : (o : Option Value) → value_of_text k p.text ≡ o → known p.line o ≡ Ok c → FitsKind (Some k) c
    by None is e = absurd (cc e)
    by (Some v) is e = there v is (is_missing v) e
constant_fits Opaque (Some p) c e has = let same : None ≡ c = cc e in subst (FitsKind None) same tt

ppt_var_fits : (implicit : Bool) (es : List EdgeDecl) (g : Line × List Line) (v : VarDecl) → IsDeclaredBy implicit es g v → HasFittingConstant v
ppt_var_fits implicit es g v is has = by (last_rep_type g.1) is.kind is.constant
  where
    by : (o : Option RepType) → option_map rep_kind o ≡ Some v.kind → option_map (λ rep. constant_at rep (last_constant g.1)) o ≡ Some (Ok v.constant) → FitsKind v.kind v.constant
    by None kind constant = absurd (cc kind)
    by (Some rep) kind constant =
        let of : rep_kind rep ≡ v.kind = cc kind in
        let given : constant_at rep (last_constant g.1) ≡ Ok v.constant = cc constant in
        let P : Option Kind → Type 0 = λ k. FitsKind k v.constant in
        subst P of (constant_fits rep (last_constant g.1) v.constant given (cc (is.constant_line, has)))

represented_fits : (l : Line) (r : Represented) → representation l ≡ Ok r → r.constant_line ≡ true → FitsKind (rep_kind r.rep) r.constant
unfolding representation
represented_fits l r e has =
    bind_ok (or_refused BadVariable l.number (rep_type_of (first_word l.bytes))) _ r e (λ rep is_rep rest.
    bind_ok (constant_text l) _ r rest (λ text is_text more.
    bind_ok (constant_at rep text) (λ constant. Ok (represented rep text constant)) r more (λ constant is_constant whole.
    let same : represented rep text constant ≡ r = cc whole in
    let P : Represented → Type 0 = λ x. x.constant_line ≡ true → FitsKind (rep_kind x.rep) x.constant in
    subst P same (λ there. constant_fits rep text constant is_constant there) has)))

declared_var_fits : (implicit : Bool) (f : Four) (v : VarDecl) → IsDeclaredByFour implicit f v → HasFittingConstant v
declared_var_fits implicit f v is has =
    let r = is.represented.0 in
    let own = is.represented.2 in
    let fits : FitsKind (rep_kind r.rep) r.constant = represented_fits f.representation r is.represented.1 (cc (own.constant_line, has)) in
    let P : Option Kind → Type 0 = λ k. FitsKind k v.constant in
    let Q : Option Value → Type 0 = λ c. FitsKind (rep_kind r.rep) c in
    subst P (sym own.kind) (subst Q (sym own.constant) fits)

-- what holds of each pair holds of the second list
all_second : {A B : Type 0} (R : A → B → Type 0) (P : B → Type 0) → ((a : A) (b : B) → R a b → P b) → (xs : List A) (ys : List B) → AllZip R xs ys → All P ys
all_second R P gives [] [] h = All-nil P
all_second R P gives [] (y ∷ ys) h = absurd h
all_second R P gives (x ∷ xs) [] h = absurd h
all_second R P gives (x ∷ xs) (y ∷ ys) h = All-cons P y ys (gives x y h.0) (all_second R P gives xs ys h.1)

pub declared_fit : (implicit : Bool) (first : Line) (ls : List Line) (close : ℕ) (d : PointDecl) → block_decl implicit first ls (Some close) ≡ Ok d → HasFittingConstants d
unfolding block_decl declare_lines
declared_fit implicit first ls close d e = by (is_declare first) e
  where
    in_order : (ls : List Line) → declare_lines implicit first.number ls (Some close) ≡ Ok d → HasFittingConstants d
    in_order [] e = absurd (cc e)
    in_order (l ∷ ls) e = all_second (IsDeclaredByFour implicit) HasFittingConstant (declared_var_fits implicit) _ d.vars (by_position implicit first.number l ls close d e).vars

    by : (b : Bool) → (if b then declare_lines implicit first.number ls (Some close) else ppt_of implicit first ls (Some close)) ≡ Ok d → HasFittingConstants d
    by true e = in_order ls e
    by false e = all_second (IsDeclaredBy implicit d.edges) HasFittingConstant (ppt_var_fits implicit d.edges) (groups ls).1 d.vars (last_lines_count implicit first ls close d e)
