-- The numbers of lines tell where a fault is, and nothing else: a record gives the same sample wherever it stands.
use Rattle.std.proofs.Common.{◌≡◌, ◌||◌, ℕ, ℤ, Bool, true, false, List, [], ◌∷◌, codes, map, Option, Some, None, option_map, Result, Ok, Err, refl, ap, ◌∙◌, if◌then◌else◌}
use Rattle.std.specs.Result.{result_ok}
use Rattle.std.specs.Str.{bytes_eq}
use Rattle.dk_base.specs.Names.{unescaped}
use Rattle.dk_base.specs.Numbers.{integer_of}
use Rattle.dk_base.specs.Reading.{Line, LineFault, ◌>>=◌}
use Rattle.dk_base.specs.Values.{value_of_text}
use Rattle.dk_base.specs.declared.kinds.Kind.{Kind}
use Rattle.dk_base.specs.declared.values.Value.{Value}
use Rattle.dk_base.specs.declared.why.Why.{Why}
use Rattle.dk_base.specs.declared.why.Why.TheVariants.{BadMark, BadNonce, BadValue, UnknownPoint, WrongName}
use Rattle.dk_decl.specs.Outcomes.{or_refused, refused}
use Rattle.dk_decl.specs.declared.decls.VarDecl.{VarDecl}
use Rattle.dk_points.specs.Table.{Point}
use Rattle.dk_trace.specs.Bodies.{Body, body_of, body_with, from_nonce, is_nonce_line, nonce_of}
use Rattle.dk_trace.specs.Marks.{marked_value, no_value, read_value}
use Rattle.dk_trace.specs.Records.{Sample, declared_place, point_named_by, sample_of, sample_with, var_decls_at}
use Rattle.dk_trace.specs.Values.{from_name, known_values, named_kind, record_values, then_values}
use Rattle.dk_recorders.specs.Blocks.{unnumbered}

-- the lines without their numbers
abbrev pub plain : List Line → List Line
plain ls = map (λ (l : Line). unnumbered l.bytes) ls

-- ---- results without their faults
pub ok_then : {A B : Type 0} (r q : Result A LineFault) (f g : A → Result B LineFault) → result_ok r ≡ result_ok q
    → ((x : A) → result_ok (f x) ≡ result_ok (g x)) → result_ok (r >>= f) ≡ result_ok (q >>= g)
ok_then (Ok x) (Ok y) f g same more = let e : x ≡ y = cc same in more x ∙ ap (λ z. result_ok (g z)) e
ok_then (Ok x) (Err e) f g same more = absurd (cc same)
ok_then (Err e) (Ok y) f g same more = absurd (cc same)
ok_then (Err e) (Err d) f g same more = refl

pub refused_anywhere : {A : Type 0} (why : Why) (n m : ℕ) (o : Option A) → result_ok (or_refused why n o) ≡ result_ok (or_refused why m o)
refused_anywhere why n m None = refl
refused_anywhere why n m (Some x) = refl

-- ---- values
same_kind : (v : VarDecl) (name : Line) → result_ok (named_kind v name) ≡ result_ok (named_kind v (unnumbered name.bytes))
unfolding named_kind
same_kind v name = by (bytes_eq (unescaped name.bytes) v.name)
  where
    by : (b : Bool) → result_ok (if b then Ok v.kind else refused WrongName name.number) ≡ result_ok (if b then Ok v.kind else refused WrongName 0)
    by true = refl
    by false = refl

same_read : (k : Option Kind) (text : Line) → result_ok (read_value k text) ≡ result_ok (read_value k (unnumbered text.bytes))
unfolding read_value
same_read None text = refl
same_read (Some k) text =
    ok_then (or_refused BadValue text.number (value_of_text k text.bytes)) (or_refused BadValue 0 (value_of_text k text.bytes))
    (λ (v : Value). Ok (v ∷ [])) (λ (v : Value). Ok (v ∷ [])) (refused_anywhere BadValue text.number 0 (value_of_text k text.bytes)) (λ v. refl)

same_marked : (k : Option Kind) (text mark : Line)
    → result_ok (marked_value k text mark) ≡ result_ok (marked_value k (unnumbered text.bytes) (unnumbered mark.bytes))
unfolding marked_value
same_marked k text mark =
    by (bytes_eq mark.bytes (codes "2")) (bytes_eq mark.bytes (codes "0") || bytes_eq mark.bytes (codes "1"))
  where
    by : (a b : Bool) → result_ok (if a then Ok (no_value k) else if b then read_value k text else refused BadMark mark.number)
        ≡ result_ok (if a then Ok (no_value k) else if b then read_value k (unnumbered text.bytes) else refused BadMark 0)
    by true b = refl
    by false true = same_read k text
    by false false = refl

same_named : (v : VarDecl) (vs : List VarDecl) (ls : List Line) (c : ℕ)
    → ((ms : List Line) → result_ok (record_values vs ms (Some c)) ≡ result_ok (record_values vs (plain ms) (Some 0)))
    → result_ok (from_name v (record_values vs) ls (Some c)) ≡ result_ok (from_name v (record_values vs) (plain ls) (Some 0))
same_named v vs [] c more = refl
same_named v vs (a ∷ []) c more = ok_then (named_kind v a) (named_kind v (unnumbered a.bytes)) _ _ (same_kind v a) (λ k. refl)
same_named v vs (a ∷ b ∷ []) c more = ok_then (named_kind v a) (named_kind v (unnumbered a.bytes)) _ _ (same_kind v a) (λ k. refl)
same_named v vs (a ∷ b ∷ m ∷ ls) c more =
    ok_then (named_kind v a) (named_kind v (unnumbered a.bytes)) _ _ (same_kind v a)
    (λ k. ok_then (marked_value k b m) (marked_value k (unnumbered b.bytes) (unnumbered m.bytes)) _ _ (same_marked k b m)
    (λ front. ok_then (record_values vs ls (Some c)) (record_values vs (plain ls) (Some 0)) _ _ (more ls) (λ back. refl)))

same_values : (vs : List VarDecl) (ls : List Line) (c : ℕ)
    → result_ok (record_values vs ls (Some c)) ≡ result_ok (record_values vs (plain ls) (Some 0))
same_values [] [] c = refl
same_values [] (l ∷ ls) c = refl
same_values (v ∷ vs) ls c = by v.constant_line (λ ms. same_values vs ms c)
  where
    by : (b : Bool) → ((ms : List Line) → result_ok (record_values vs ms (Some c)) ≡ result_ok (record_values vs (plain ms) (Some 0)))
        → result_ok (if b then then_values (known_values v.constant) (record_values vs ls (Some c)) else from_name v (record_values vs) ls (Some c))
        ≡ result_ok (if b then then_values (known_values v.constant) (record_values vs (plain ls) (Some 0)) else from_name v (record_values vs) (plain ls) (Some 0))
    by true more = ok_then (record_values vs ls (Some c)) (record_values vs (plain ls) (Some 0)) _ _ (more ls) (λ back. refl)
    by false more = same_named v vs ls c more

-- ---- records
same_body_with : (number : Option ℤ) (vs : List VarDecl) (ls : List Line) (c : ℕ)
    → result_ok (body_with number (record_values vs ls (Some c))) ≡ result_ok (body_with number (record_values vs (plain ls) (Some 0)))
same_body_with number vs ls c = ok_then (record_values vs ls (Some c)) (record_values vs (plain ls) (Some 0)) _ _ (same_values vs ls c) (λ values. refl)

same_nonce : (k : Line) → result_ok (nonce_of k) ≡ result_ok (nonce_of (unnumbered k.bytes))
unfolding nonce_of
same_nonce k = refused_anywhere BadNonce k.number 0 (integer_of k.bytes)

same_from_nonce : (vs : List VarDecl) (ls : List Line) (c : ℕ) → result_ok (from_nonce vs ls (Some c)) ≡ result_ok (from_nonce vs (plain ls) (Some 0))
same_from_nonce vs [] c = refl
same_from_nonce vs (l ∷ ls) c =
    ok_then (nonce_of l) (nonce_of (unnumbered l.bytes)) _ _ (same_nonce l) (λ n. same_body_with (Some n) vs ls c)

same_body : (vs : List VarDecl) (ls : List Line) (c : ℕ) → result_ok (body_of vs ls (Some c)) ≡ result_ok (body_of vs (plain ls) (Some 0))
unfolding body_of is_nonce_line
same_body vs [] c = same_body_with None vs [] c
same_body vs (l ∷ ls) c = by (bytes_eq l.bytes (codes "this_invocation_nonce"))
  where
    by : (b : Bool) → result_ok (if b then from_nonce vs ls (Some c) else body_with None (record_values vs (l ∷ ls) (Some c)))
        ≡ result_ok (if b then from_nonce vs (plain ls) (Some 0) else body_with None (record_values vs (plain (l ∷ ls)) (Some 0)))
    by true = same_from_nonce vs ls c
    by false = same_body_with None vs (l ∷ ls) c

-- a sample that begins at this line
abbrev pub begun_at : ℕ → Sample → Sample
begun_at n s = record s { line = n }

from_body : (p n : ℕ) (r q : Result Body LineFault) → result_ok r ≡ result_ok q
    → result_ok (sample_with p n r) ≡ option_map (begun_at n) (result_ok (sample_with p 0 q))
from_body p n (Ok b) (Ok d) same =
    let e : b ≡ d = cc same in
    ap (λ (x : Body). let s : Sample = record { point = p; line = n; nonce = x.nonce; values = x.values } in Some s) e
from_body p n (Ok b) (Err e) same = absurd (cc same)
from_body p n (Err e) (Ok d) same = absurd (cc same)
from_body p n (Err e) (Err d) same = refl

pub same_sample : (ps : List Point) (first : Line) (ls : List Line) (c : ℕ)
    → result_ok (sample_of ps first ls (Some c)) ≡ option_map (begun_at first.number) (result_ok (sample_of ps (unnumbered first.bytes) (plain ls) (Some 0)))
unfolding sample_of point_named_by
same_sample ps first ls c = by (declared_place ps (unescaped first.bytes))
  where
    by : (o : Option ℕ) → result_ok (or_refused UnknownPoint first.number o >>= λ p. sample_with p first.number (body_of (var_decls_at ps p) ls (Some c)))
        ≡ option_map (begun_at first.number) (result_ok (or_refused UnknownPoint 0 o >>= λ p. sample_with p 0 (body_of (var_decls_at ps p) (plain ls) (Some 0))))
    by None = refl
    by (Some p) = from_body p first.number (body_of (var_decls_at ps p) ls (Some c)) (body_of (var_decls_at ps p) (plain ls) (Some 0)) (same_body (var_decls_at ps p) ls c)
