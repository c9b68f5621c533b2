-- The first variable of those that are like one.
use Rattle.std.proofs.Common.{◌≡◌, ◌≢◌, ℕ, ◌+◌, ◌<◌, ◌≤◌, eqb, inl, inr, List, [], ◌∷◌, ◌++◌, length, get_or, true, false, cond, not, ◌&&◌, refl, ap, sym, ◌∙◌, subst, arith}
use Rattle.std.specs.List.{All, Contains}
use Rattle.std.proofs.lemmas.Bool.{cases_lt, cases_eq}
use Rattle.std.proofs.lemmas.Bool.Decides.{nat_tests}
use Rattle.std.proofs.lemmas.List.Elements.{All-contains, Contains-append_left, Contains-get_or, Contains-push, Contains-push_cases}
use Rattle.std.proofs.lemmas.List.{get_or_append_left, get_or_push, length_push}
use Rattle.std.proofs.lemmas.List.Quantifiers.{all_pairs_push}
use Rattle.dk_base.specs.declared.kinds.VarId.{VarId}
use Rattle.dk_base.specs.declared.values.Value.{Value}
use Rattle.dk_samples.specs.Samples.{value_in}
use Rattle.dk_classes.specs.Leaders.{AreClasses, leader_at, var}
use Rattle.dk_classes.specs.Classes.{AreNew, IsFirst, IsLike, IsSplit, NewBelow, new_with}

-- there is one first
pub one_first : (P : ℕ → Type 0) (m n : ℕ) → IsFirst P m → IsFirst P n → m ≡ n
one_first P m n a b = omega (arith, a.first n b.holds, b.first m a.holds)

-- the first of the same numbers
pub first_same : (P Q : ℕ → Type 0) (n : ℕ) → ((m : ℕ) → P m → Q m) → ((m : ℕ) → Q m → P m) → IsFirst P n → IsFirst Q n
first_same P Q n to from a = record { holds = to n a.holds; first = λ m q. a.first m (from m q) }

same_id : (v w : VarId) → v.0 ≡ w.0 → v ≡ w
same_id v w e = ap (λ n. record { 0 = n }) e

module _ (leaders : List VarId) (sample : List Value) where
  like_back : (v w : ℕ) → v < length leaders → IsLike leaders sample v w → IsLike leaders sample w v
  like_back v w l like = record { within = l; class = sym like.class; value = sym like.value }

  like_on : (u v w : ℕ) → IsLike leaders sample u v → IsLike leaders sample v w → IsLike leaders sample u w
  like_on u v w a b = record { within = b.within; class = b.class ∙ a.class; value = b.value ∙ a.value }

  -- variables that are like each other have one first
  pub first_on : (v w r : ℕ) → v < length leaders → IsLike leaders sample v w → IsFirst (IsLike leaders sample w) r → IsFirst (IsLike leaders sample v) r
  first_on v w r l like a = first_same (IsLike leaders sample w) (IsLike leaders sample v) r
      (λ m h. like_on v w m like h) (λ m h. like_on w v m (like_back v w l like) h) a

  module _ (classes : AreClasses leaders) (v : ℕ) (l : v < length leaders) where
    -- the old leader has the same value
    pub old_first : value_in sample (var (leader_at leaders v)) ≡ value_in sample (var v) → IsFirst (IsLike leaders sample v) (leader_at leaders v)
    old_first e = record {
      holds = record { within = omega (arith, classes.before v l); class = classes.own v l; value = e };
      first = λ w like. subst (λ n. n ≤ w) like.class (classes.before w like.within);
    }

    module _ (new : List (VarId × VarId)) (below : NewBelow leaders sample v new) (old : VarId) (is : old.0 ≡ leader_at leaders v) where
      -- a new leader of the class has the same value
      pub found_first : (w : VarId) → Contains new (w, old) → value_in sample w ≡ value_in sample (var v) → IsFirst (IsLike leaders sample v) w.0
      found_first w has e =
          let told = (below.each w old).0 has in
          first_on v w.0 w.0 l (record { within = omega arith; class = sym told.2 ∙ is; value = e }) told.1.first

      -- neither has
      pub none_first : value_in sample (var (leader_at leaders v)) ≢ value_in sample (var v) → All (λ n. n.1 ≡ old → value_in sample n.0 ≢ value_in sample (var v)) new → IsFirst (IsLike leaders sample v) v
      none_first apart none = record {
        holds = record { within = l; class = refl; value = refl };
        first = λ u like. elim (cases_lt u v) [
          | inl lt ↦
              let found = below.firsts u lt in
              let r = found.0 in
              let here : IsLike leaders sample v r = like_on v u r like found.1.holds in
              let rv : r < v = omega (arith, found.1.first u (record { within = like.within; class = refl; value = refl })) in
              let own : IsFirst (IsLike leaders sample r) r = first_on r u r here.within (like_back u r like.within found.1.holds) found.1 in
              absurd (elim (cases_eq (leader_at leaders r) r) [
                | inl leads ↦ apart (ap (λ n. value_in sample (var n)) (sym here.class ∙ leads) ∙ here.value)
                | inr led ↦
                    let has = (below.each (var r) old).1 (rv, record { led = led; first = own }, is ∙ sym here.class) in
                    All-contains (λ n. n.1 ≡ old → value_in sample n.0 ≢ value_in sample (var v)) new (var r, old) none has refl here.value
              ])
          | inr ge ↦ ge
        ];
      }

  -- ---- one variable more
  module _ (n : ℕ) (new : List (VarId × VarId)) (below : NewBelow leaders sample n new) (first old : VarId) (is : IsFirst (IsLike leaders sample n) first.0) (was : old.0 ≡ leader_at leaders n) where
    firsts_more : (v : ℕ) → v < n + 1 → (r : ℕ) × IsFirst (IsLike leaders sample v) r
    firsts_more v l = elim (cases_lt v n) [
      | inl lt ↦ below.firsts v lt
      | inr ge ↦ (first.0, subst (λ m. IsFirst (IsLike leaders sample m) first.0) (omega arith) is)
    ]

    -- it leads a new class
    with_new : first.0 ≡ n → old.0 ≢ n → NewBelow leaders sample (n + 1) (new ++ (first, old) ∷ [])
    with_new here led = record {
      ascend = all_pairs_push (λ m k. m.0.0 < k.0.0) new (first, old) below.ascend (λ k d l.
          let told = (below.each (get_or new k d).0 (get_or new k d).1).0 (Contains-get_or new k d l) in omega (arith, told.0));
      each = λ v w. (
        λ has. elim (Contains-push_cases new (first, old) (v, w) has) [
          | inl before ↦ let told = (below.each v w).0 before in (omega (arith, told.0), told.1, told.2)
          | inr same ↦
              let fv : first ≡ v = ap (λ (p : VarId × VarId). p.0) same in
              let ow : old ≡ w = ap (λ (p : VarId × VarId). p.1) same in
              let vn : v.0 ≡ n = sym (ap (λ (u : VarId). u.0) fv) ∙ here in (
                omega arith,
                record {
                  led = λ e. led (was ∙ subst (λ m. leader_at leaders m ≡ m) vn e);
                  first = subst (λ m. IsFirst (IsLike leaders sample m) m) (sym vn) (subst (IsFirst (IsLike leaders sample n)) here is);
                },
                sym (ap (λ (u : VarId). u.0) ow) ∙ (was ∙ ap (leader_at leaders) (sym vn)),
              )
        ],
        λ told. elim (cases_lt v.0 n) [
          | inl lt ↦ Contains-append_left new ((first, old) ∷ []) (v, w) ((below.each v w).1 (lt, told.1, told.2))
          | inr ge ↦
              let vn : v.0 ≡ n = omega (arith, told.0) in
              let fv : first ≡ v = same_id first v (here ∙ sym vn) in
              let ow : old ≡ w = same_id old w (was ∙ (ap (leader_at leaders) (sym vn) ∙ sym told.2)) in
              let both : ◌≡◌ {A = VarId × VarId} (first, old) (v, w) = ap (λ (a : VarId). (a, old)) fv ∙ ap (λ (b : VarId). (v, b)) ow in
              subst (Contains (new ++ (first, old) ∷ [])) both (Contains-push new (first, old))
        ],
      );
      firsts = firsts_more;
    }

    -- it doesn't
    without : (first.0 ≡ n → old.0 ≡ n) → NewBelow leaders sample (n + 1) new
    without other = record {
      ascend = below.ascend;
      each = λ v w. (
        λ has. let told = (below.each v w).0 has in (omega (arith, told.0), told.1, told.2),
        λ told. elim (cases_lt v.0 n) [
          | inl lt ↦ (below.each v w).1 (lt, told.1, told.2)
          | inr ge ↦
              let vn : v.0 ≡ n = omega (arith, told.0) in
              let here : first.0 ≡ n = one_first (IsLike leaders sample n) first.0 n is (subst (λ m. IsFirst (IsLike leaders sample m) m) vn told.1.first) in
              absurd (told.1.led (ap (leader_at leaders) vn ∙ (sym was ∙ (other here ∙ sym vn))))
        ],
      );
      firsts = firsts_more;
    }

  -- what with_leader does keeps the new leaders
  pub new_more : (n : ℕ) (new : List (VarId × VarId)) → NewBelow leaders sample n new → (first old : VarId) → IsFirst (IsLike leaders sample n) first.0 → old.0 ≡ leader_at leaders n → NewBelow leaders sample (n + 1) (new_with new n first old)
  new_more n new below first old is was = elim (cases_eq first.0 n) [
    | inl here ↦ elim (cases_eq old.0 n) [
      | inl same ↦ subst (NewBelow leaders sample (n + 1)) (sym (ap (λ b. cond b (new ++ (first, old) ∷ []) new) (neither here same))) (without n new below first old is was (λ _. same))
      | inr led ↦ subst (NewBelow leaders sample (n + 1)) (sym (ap (λ b. cond b (new ++ (first, old) ∷ []) new) (both here led))) (with_new n new below first old is was here led)
    ]
    | inr there ↦ subst (NewBelow leaders sample (n + 1)) (sym (ap (λ b. cond b (new ++ (first, old) ∷ []) new) (other there))) (without n new below first old is was (λ here. absurd (there here)))
  ]
    where
      neither : first.0 ≡ n → old.0 ≡ n → (eqb first.0 n && not (eqb old.0 n)) ≡ false
      neither here same = grind (arith, nat_tests)

      both : first.0 ≡ n → old.0 ≢ n → (eqb first.0 n && not (eqb old.0 n)) ≡ true
      both here led = grind (arith, nat_tests)

      other : first.0 ≢ n → (eqb first.0 n && not (eqb old.0 n)) ≡ false
      other there = grind (arith, nat_tests)

  -- all new leaders, by the leaders after the split
  pub new_from : (split : List VarId) (new : List (VarId × VarId)) → IsSplit leaders sample split → NewBelow leaders sample (length leaders) new → AreNew leaders split new
  new_from split new is below = record {
    ascend = below.ascend;
    each = λ v w. (
      λ has.
          let told = (below.each v w).0 has in
          (omega (arith, told.0, is.long), one_first (IsLike leaders sample v.0) (leader_at split v.0) v.0 (is.each v.0 told.0) told.1.first, told.1.led, told.2),
      λ told.
          let l : v.0 < length leaders = omega (arith, told.0, is.long) in
          (below.each v w).1 (l, record { led = told.2; first = subst (IsFirst (IsLike leaders sample v.0)) told.1 (is.each v.0 l) }, told.3),
    );
  }

  -- nothing splits where each variable has the value of its leader
  pub split_quiet : AreClasses leaders → ((v : ℕ) → v < length leaders → value_in sample (var (leader_at leaders v)) ≡ value_in sample (var v)) → IsSplit leaders sample leaders
  split_quiet classes one = record { long = refl; each = λ v l. old_first classes v l (one v l) }

  pub new_quiet : AreNew leaders leaders []
  new_quiet = record {
    ascend = λ i j d l m. absurd (omega arith);
    each = λ v w. (λ has. absurd (omega (arith, has.1)), λ told. absurd (told.2 told.1));
  }

  -- before the first variable
  pub new_none : NewBelow leaders sample 0 []
  new_none = record {
    ascend = λ i j d l m. absurd (omega arith);
    each = λ v w. (λ has. absurd (omega (arith, has.1)), λ told. absurd (omega (arith, told.0)));
    firsts = λ v l. absurd (omega arith);
  }

-- leaders with one more behind them
leader_push : (xs : List VarId) (x : VarId) (n : ℕ) → n < length xs → leader_at (xs ++ x ∷ []) n ≡ leader_at xs n
leader_push xs x n l = ap (λ (v : VarId). v.0) (get_or_append_left xs (x ∷ []) (var 0) n l)

-- one leader more: each is the first of those that have a property of the variable
pub each_more : (P : ℕ → ℕ → Type 0) (more leaders : List VarId) (x : VarId) (v : ℕ) → more ≡ leaders ++ x ∷ [] → length leaders ≡ v → ((k : ℕ) → k < v → IsFirst (P k) (leader_at leaders k)) → IsFirst (P v) x.0 → (k : ℕ) → k < v + 1 → IsFirst (P k) (leader_at more k)
each_more P more leaders x v is long below here k l = elim (cases_lt k v) [
  | inl lt ↦ subst (IsFirst (P k)) (sym (ap (λ xs. leader_at xs k) is ∙ leader_push leaders x k (omega arith))) (below k lt)
  | inr ge ↦
      let kv : k ≡ v = omega arith in
      let last : leader_at more k ≡ x.0 = ap (λ xs. leader_at xs k) is ∙ (ap (leader_at (leaders ++ x ∷ [])) kv ∙ ap (λ (w : VarId). w.0) (get_or_push leaders x (var 0) v long)) in
      subst (IsFirst (P k)) (sym last) (subst (λ m. IsFirst (P m) x.0) (sym kv) here)
]

pub long_more : (more leaders : List VarId) (x : VarId) (v : ℕ) → more ≡ leaders ++ x ∷ [] → length leaders ≡ v → length more ≡ v + 1
long_more more leaders x v is long = ap length is ∙ (length_push leaders x ∙ ap (λ n. n + 1) long)
