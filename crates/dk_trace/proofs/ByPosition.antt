-- The lines of a record, three by three.
use Rattle.std.proofs.Common.{◌≡◌, ◌∙◌, ◌++◌, ◌*◌, ℕ, ℤ, suc, Bool, true, false, not, List, [], ◌∷◌, drop, filter, length, Option, Some, None, Result, Ok, refl, ap, subst, if◌then◌else◌, arith}
use Rattle.std.specs.Str.{bytes_eq}
use Rattle.std.proofs.lemmas.Slice.Eq.{bytes_eq-Decides}
use Rattle.dk_base.specs.Names.{unescaped}
use Rattle.dk_base.specs.Reading.{Line, LineFault}
use Rattle.dk_base.specs.declared.kinds.Kind.{Kind}
use Rattle.dk_base.specs.declared.values.Value.{Value}
use Rattle.dk_base.specs.declared.why.Why.TheVariants.{WrongName}
use Rattle.dk_decl.proofs.LastLines.{bind_ok}
use Rattle.dk_decl.specs.Outcomes.{refused}
use Rattle.dk_decl.specs.declared.decls.VarDecl.{VarDecl}
use Rattle.dk_trace.specs.Bodies.{Body, body_of, body_with, from_nonce, is_nonce_line, nonce_of}
use Rattle.dk_trace.specs.Marks.{marked_value}
use Rattle.dk_trace.specs.Positions.{AreInOrder, LinesCountByPosition, behind_nonce}
use Rattle.dk_trace.specs.Records.{point_named_by, sample_of, sample_with, var_decls_at}
use Rattle.dk_trace.specs.Values.{from_name, from_value, known_values, named_kind, record_values, then_values}

-- the line names the variable, and gives its kind
named : (v : VarDecl) (l : Line) (k : Option Kind) → named_kind v l ≡ Ok k → (unescaped l.bytes ≡ v.name) × (k ≡ v.kind)
unfolding named_kind
named v l k e = by (bytes_eq (unescaped l.bytes) v.name) refl e
  where
    by : (b : Bool) → bytes_eq (unescaped l.bytes) v.name ≡ b → (if b then Ok v.kind else refused WrongName l.number) ≡ Ok k → (unescaped l.bytes ≡ v.name) × (k ≡ v.kind)
    by true is e = ((bytes_eq-Decides (unescaped l.bytes) v.name).0 is, cc e)
    by false is e = absurd (cc e)

three_more : (n m : ℕ) → n ≡ 3 * m → suc (suc (suc n)) ≡ 3 * suc m
three_more n m h = omega arith

-- a variable with a constant in front
with_constant : (v : VarDecl) (vs : List VarDecl) (ls : List Line) (values back : List Value) → v.constant_line ≡ true → values ≡ known_values v.constant ++ back
    → AreInOrder vs ls back → AreInOrder (v ∷ vs) ls values
with_constant v vs ls values back has whole o = record {
  by_variable = known_values v.constant ∷ o.by_variable;
  all = whole ∙ ap (λ (l : List Value). known_values v.constant ++ l) o.all;
  constants = (λ is. refl, o.constants);
  given = rw has o.given;
  none_left = rw has o.none_left;
}

-- a variable that its three lines give
with_lines : (v : VarDecl) (vs : List VarDecl) (a t m : Line) (ls : List Line) (front values back : List Value) → v.constant_line ≡ false → unescaped a.bytes ≡ v.name
    → marked_value v.kind t m ≡ Ok front → values ≡ front ++ back → AreInOrder vs ls back → AreInOrder (v ∷ vs) (a ∷ t ∷ m ∷ ls) values
with_lines v vs a t m ls front values back has own said whole o = record {
  by_variable = front ∷ o.by_variable;
  all = whole ∙ ap (λ (l : List Value). front ++ l) o.all;
  constants = (λ is. absurd (cc (is, has)), o.constants);
  given = rw has (record { named = own; said = said }, o.given);
  none_left = rw has (three_more (length ls) (length (filter (λ v. not v.constant_line) vs)) o.none_left);
}

then_whole : (front : List Value) (read : Result (List Value) LineFault) (values : List Value) (P : Type 0) → then_values front read ≡ Ok values
    → ((back : List Value) → read ≡ Ok back → values ≡ front ++ back → P) → P
then_whole front read values P e more = bind_ok read (λ back. Ok (front ++ back)) values e (λ back is whole. more back is (cc whole))

in_order : (vs : List VarDecl) (ls : List Line) (close : ℕ) (values : List Value) → record_values vs ls (Some close) ≡ Ok values → AreInOrder vs ls values
in_order [] [] close values e = let same : values ≡ [] = cc e in record { by_variable = []; all = same; constants = tt; given = tt; none_left = refl }
in_order [] (l ∷ ls) close values e = absurd (cc e)
in_order (v ∷ vs) ls close values e = by v.constant_line refl e (λ (ls : List Line) (ys : List Value) read. in_order vs ls close ys read)
  where
    from : (ls : List Line) → v.constant_line ≡ false → from_name v (record_values vs) ls (Some close) ≡ Ok values
        → ((ls : List Line) (ys : List Value) → record_values vs ls (Some close) ≡ Ok ys → AreInOrder vs ls ys) → AreInOrder (v ∷ vs) ls values
    from [] has e others = absurd (cc e)
    from (a ∷ []) has e others = bind_ok (named_kind v a) (λ k. from_value k (record_values vs) [] (Some close)) values e (λ k is short. absurd (cc short))
    from (a ∷ t ∷ []) has e others = bind_ok (named_kind v a) (λ k. from_value k (record_values vs) (t ∷ []) (Some close)) values e (λ k is short. absurd (cc short))
    from (a ∷ t ∷ m ∷ ls) has e others =
        bind_ok (named_kind v a) (λ k. from_value k (record_values vs) (t ∷ m ∷ ls) (Some close)) values e (λ k is marked.
        bind_ok (marked_value k t m) (λ front. then_values front (record_values vs ls (Some close))) values marked (λ front said rest.
        then_whole front (record_values vs ls (Some close)) values (AreInOrder (v ∷ vs) (a ∷ t ∷ m ∷ ls) values) rest (λ back read whole.
        let own = named v a k is in
        let P : Option Kind → Type 0 = λ o. marked_value o t m ≡ Ok front in
        with_lines v vs a t m ls front values back has own.0 (subst P own.1 said) whole (others ls back read))))

    by : (b : Bool) → v.constant_line ≡ b
        → (if b then then_values (known_values v.constant) (record_values vs ls (Some close)) else from_name v (record_values vs) ls (Some close)) ≡ Ok values
        → ((ls : List Line) (ys : List Value) → record_values vs ls (Some close) ≡ Ok ys → AreInOrder vs ls ys) → AreInOrder (v ∷ vs) ls values
    by true has e others = then_whole (known_values v.constant) (record_values vs ls (Some close)) values (AreInOrder (v ∷ vs) ls values) e
        (λ back read whole. with_constant v vs ls values back has whole (others ls back read))
    by false has e others = from ls has e others

with_nonce : (vs : List VarDecl) (n : Option ℤ) (ls : List Line) (close : ℕ) (b : Body) → body_with n (record_values vs ls (Some close)) ≡ Ok b → AreInOrder vs ls b.values
with_nonce vs n ls close b e =
    bind_ok (record_values vs ls (Some close)) (λ xs. Ok (record { nonce = n; values = xs })) b e (λ xs is whole.
    let same : xs ≡ b.values = cc whole in
    let P : List Value → Type 0 = λ l. AreInOrder vs ls l in
    subst P same (in_order vs ls close xs is))

bodies_in_order : (vs : List VarDecl) (ls : List Line) (close : ℕ) (b : Body) → body_of vs ls (Some close) ≡ Ok b → AreInOrder vs (behind_nonce ls) b.values
unfolding body_of
bodies_in_order vs [] close b e = with_nonce vs None [] close b e
bodies_in_order vs (l ∷ ls) close b e = by (is_nonce_line l) e
  where
    numbered : (ls : List Line) → from_nonce vs ls (Some close) ≡ Ok b → AreInOrder vs (drop 1 ls) b.values
    numbered [] e = absurd (cc e)
    numbered (n ∷ ls) e = bind_ok (nonce_of n) (λ z. body_with (Some z) (record_values vs ls (Some close))) b e (λ z is whole. with_nonce vs (Some z) ls close b whole)

    by : (c : Bool) → (if c then from_nonce vs ls (Some close) else body_with None (record_values vs (l ∷ ls) (Some close))) ≡ Ok b → AreInOrder vs (if c then drop 1 ls else l ∷ ls) b.values
    by true e = numbered ls e
    by false e = with_nonce vs None (l ∷ ls) close b e

pub by_position : LinesCountByPosition
unfolding sample_of
by_position ps first ls close s e =
    bind_ok (point_named_by ps first) (λ p. sample_with p first.number (body_of (var_decls_at ps p) ls (Some close))) s e (λ p is read.
    bind_ok (body_of (var_decls_at ps p) ls (Some close)) (λ b. Ok (record { point = p; line = first.number; nonce = b.nonce; values = b.values })) s read (λ b body whole.
    let point : p ≡ s.point = cc whole in
    let values : b.values ≡ s.values = cc whole in
    let P : ℕ → Type 0 = λ q. body_of (var_decls_at ps q) ls (Some close) ≡ Ok b in
    let Q : List Value → Type 0 = λ l. AreInOrder (var_decls_at ps s.point) (behind_nonce ls) l in
    subst Q values (bodies_in_order (var_decls_at ps s.point) ls close b (subst P point body))))
