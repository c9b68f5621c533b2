-- Tests that decide equality.
use Rattle.std.proofs.Common.{◌≡◌, ◌&&◌, ◌==◌, Bool, true, false, Option, Some, None, Decides, bytes_eq, int_eq, refl, ap, subst}
use Rattle.std.specs.Bool.{beq}
use Rattle.std.specs.Cmp.Lexicographic.{bytes_decides, pointwise, pointwise_decides}
use Rattle.std.proofs.lemmas.Bool.Decides.{Decides-int_eq, Decides-eqb}
use Rattle.dk_base.proofs.ValueTests.{beq_decides, same_value-decides}
use Rattle.dk_base.specs.Values.SameValues.{same_value}
use Rattle.dk_base.specs.declared.kinds.Compar.{Compar}
use Rattle.dk_base.specs.declared.kinds.Kind.{Kind}
use Rattle.dk_base.specs.declared.kinds.Kind.TheVariants as kind
use Rattle.dk_decl.specs.declared.decls.EdgeDecl.{EdgeDecl}
use Rattle.dk_decl.specs.declared.decls.ParentVar.{ParentVar}
use Rattle.dk_decl.specs.declared.decls.PointDecl.{PointDecl}
use Rattle.dk_decl.specs.declared.decls.VarDecl.{VarDecl}
use Rattle.dk_points.specs.Laws.{SameIsEqual}
use Rattle.dk_points.specs.Links.{same_edge}
use Rattle.dk_points.specs.Sameness.{same_compar, same_decl, same_option, same_parent_var, same_var}
use Rattle.dk_points.specs.Vars.{number_of_kind, same_kind}

-- ---- declarations

and-both : (a b : Bool) → (a && b) ≡ true → (a ≡ true) × (b ≡ true)
and-both true b h = (refl, h)
and-both false b h = cc

edge-decides : (a b : EdgeDecl) → Decides (same_edge a b) (a ≡ b)
edge-decides a b = (to, λ e. subst (λ x. same_edge a x ≡ true) e (rw ((bytes_decides a.parent a.parent).1 refl) ((Decides-eqb a.id a.id).1 refl)))
  where
    to : same_edge a b ≡ true → a ≡ b
    to h =
        let both = and-both (bytes_eq a.parent b.parent) (a.id == b.id) h in
        let parent : a.parent ≡ b.parent = (bytes_decides a.parent b.parent).0 both.0 in
        let id : a.id ≡ b.id = (Decides-eqb a.id b.id).0 both.1 in
        λ i. record { parent = parent i; id = id i }

parent-decides : (a b : ParentVar) → Decides (same_parent_var a b) (a ≡ b)
parent-decides a b = (to, λ e. subst (λ x. same_parent_var a x ≡ true) e (rw ((Decides-eqb a.edge a.edge).1 refl) ((bytes_decides a.name a.name).1 refl)))
  where
    to : same_parent_var a b ≡ true → a ≡ b
    to h =
        let both = and-both (a.edge == b.edge) (bytes_eq a.name b.name) h in
        let edge : a.edge ≡ b.edge = (Decides-eqb a.edge b.edge).0 both.0 in
        let name : a.name ≡ b.name = (bytes_decides a.name b.name).0 both.1 in
        λ i. record { edge = edge i; name = name i }

compar-decides : (a b : Compar) → Decides (same_compar a b) (a ≡ b)
compar-decides a b = (to, λ e. subst (λ x. same_compar a x ≡ true) e (rw ((Decides-int_eq a.elem a.elem).1 refl) ((Decides-int_eq a.index a.index).1 refl)))
  where
    to : same_compar a b ≡ true → a ≡ b
    to h =
        let both = and-both (int_eq a.elem b.elem) (int_eq a.index b.index) h in
        let elem : a.elem ≡ b.elem = (Decides-int_eq a.elem b.elem).0 both.0 in
        let index : a.index ≡ b.index = (Decides-int_eq a.index b.index).0 both.1 in
        λ i. record { elem = elem i; index = index i }

pub kind-same : (a b : Kind) → same_kind a b ≡ true → a ≡ b
kind-same kind.Bool kind.Bool h = refl
kind-same kind.Int kind.Int h = refl
kind-same kind.Hash kind.Hash h = refl
kind-same kind.Str kind.Str h = refl
kind-same kind.BoolSeq kind.BoolSeq h = refl
kind-same kind.IntSeq kind.IntSeq h = refl
kind-same kind.HashSeq kind.HashSeq h = refl
kind-same kind.StrSeq kind.StrSeq h = refl
kind-same _ _ h = cc

kind-decides : (a b : Kind) → Decides (same_kind a b) (a ≡ b)
kind-decides a b = (kind-same a b, λ e. subst (λ x. same_kind a x ≡ true) e ((Decides-eqb (number_of_kind a) (number_of_kind a)).1 refl))

option-decides : {X : Type 0} (same : X → X → Bool) → ((a b : X) → Decides (same a b) (a ≡ b)) → (a b : Option X) → Decides (same_option same a b) (a ≡ b)
option-decides same decides None None = (λ h. refl, λ h. refl)
option-decides same decides None (Some y) = (λ h. cc, λ h. cc)
option-decides same decides (Some x) None = (λ h. cc, λ h. cc)
option-decides same decides (Some x) (Some y) = (λ h. ap Some ((decides x y).0 h), λ h. (decides x y).1 (let e : x ≡ y = cc in e))

var-itself : (a : VarDecl) → same_var a a ≡ true
var-itself a = rw (
  (bytes_decides a.name a.name).1 refl,
  (option-decides same_kind kind-decides a.kind a.kind).1 refl,
  (compar-decides a.compar a.compar).1 refl,
  (option-decides same_value same_value-decides a.constant a.constant).1 refl,
  (beq_decides a.constant_line a.constant_line).1 refl,
)
    ((pointwise_decides parent-decides a.parents a.parents).1 refl)

var-same : (a b : VarDecl) → same_var a b ≡ true → a ≡ b
var-same a b h =
    let h1 = and-both (bytes_eq a.name b.name) _ h in
    let h2 = and-both (same_option same_kind a.kind b.kind) _ h1.1 in
    let h3 = and-both (same_compar a.compar b.compar) _ h2.1 in
    let h4 = and-both (same_option same_value a.constant b.constant) _ h3.1 in
    let h5 = and-both (beq a.constant_line b.constant_line) (pointwise same_parent_var a.parents b.parents) h4.1 in
    let name : a.name ≡ b.name = (bytes_decides a.name b.name).0 h1.0 in
    let kind : a.kind ≡ b.kind = (option-decides same_kind kind-decides a.kind b.kind).0 h2.0 in
    let compar : a.compar ≡ b.compar = (compar-decides a.compar b.compar).0 h3.0 in
    let constant : a.constant ≡ b.constant = (option-decides same_value same_value-decides a.constant b.constant).0 h4.0 in
    let line : a.constant_line ≡ b.constant_line = (beq_decides a.constant_line b.constant_line).0 h5.0 in
    let parents : a.parents ≡ b.parents = (pointwise_decides parent-decides a.parents b.parents).0 h5.1 in
    λ i. record { name = name i; kind = kind i; compar = compar i; constant = constant i; constant_line = line i; parents = parents i }

var-decides : (a b : VarDecl) → Decides (same_var a b) (a ≡ b)
var-decides a b = (var-same a b, λ e. subst (λ x. same_var a x ≡ true) e (var-itself a))

decl-itself : (a : PointDecl) → same_decl a a ≡ true
unfolding same_decl
decl-itself a = rw ((bytes_decides a.name a.name).1 refl, (pointwise_decides edge-decides a.edges a.edges).1 refl) ((pointwise_decides var-decides a.vars a.vars).1 refl)

decl-same : (a b : PointDecl) → same_decl a b ≡ true → a ≡ b
unfolding same_decl
decl-same a b h =
    let h1 = and-both (bytes_eq a.name b.name) _ h in
    let h2 = and-both (pointwise same_edge a.edges b.edges) (pointwise same_var a.vars b.vars) h1.1 in
    let name : a.name ≡ b.name = (bytes_decides a.name b.name).0 h1.0 in
    let edges : a.edges ≡ b.edges = (pointwise_decides edge-decides a.edges b.edges).0 h2.0 in
    let vars : a.vars ≡ b.vars = (pointwise_decides var-decides a.vars b.vars).0 h2.1 in
    λ i. record { name = name i; edges = edges i; vars = vars i }

pub same-is-equal : SameIsEqual
same-is-equal a b = (decl-same a b, λ e. subst (λ x. same_decl a x ≡ true) e (decl-itself a))
