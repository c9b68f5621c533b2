-- Calls that hold what waits, after an entry and after an exit.
use Rattle.std.proofs.Common.{◌≡◌, ◌∙◌, ◌==◌, ◌++◌, ℕ, ℤ, Bool, true, false, List, [], ◌∷◌, drop, filter, is_some, map, Option, Some, None, option_map, option_and_then, refl, sym, ap, slice_get, subst, take, Result, Ok, Err, OnOk, if◌then◌else◌}
use Rattle.std.specs.Option.{option_map_or}
use Rattle.dk_base.specs.Reading.{◌>>=◌}
use Rattle.dk_base.specs.declared.values.Value.{Value}
use Rattle.dk_base.specs.declared.why.Why.TheVariants.{UnmatchedExit}
use Rattle.dk_decl.specs.Outcomes.{or_refused, refused}
use Rattle.dk_graph.specs.Names.{place_of}
use Rattle.dk_points.specs.Names.{entry_name, is_exit, role_of}
use Rattle.dk_points.specs.Table.{Point, decl_if_declared, names}
use Rattle.dk_points.specs.Vars.{entry_before, entry_of}
use Rattle.dk_points.specs.declared.roles.Role.{Role}
use Rattle.dk_points.specs.declared.roles.Role.TheVariants as role
use Rattle.dk_trace.specs.Records.{Sample}
use Rattle.dk_calls.specs.Nonces.{same_key, values_under}
use Rattle.dk_calls.specs.Origs.{orig_values, own_vars}
use Rattle.dk_calls.specs.Records.{call_of, entry_with, is_entry, is_entry_at, values_at_exit, with_entry}
use Rattle.dk_calls.specs.Stacks.{below_first, is_at}
use Rattle.dk_calls.specs.Standing.{Holds, plain_entry}
use Rattle.dk_calls.specs.Waiting.{Call, Entry, enters, entry_of_call, exits, is_of, is_plain, left_by, other, taken_by, waiting_of, without_plain}
use Rattle.dk_calls.specs.declared.calls.Calls.{Calls}
use Rattle.dk_calls.proofs.Waits.{and_false, any_taken, entry, left_nonce, left_plain, nonced_is_not_plain, other_left, plain_is_not_nonced, plain_other}

pub on_ok : {T E P Q : Type 0} (r : Result T E) → (P → Q) → OnOk r P → OnOk r Q
on_ok (Ok x) f h = f h
on_ok (Err e) f h = tt

-- an entry without a nonce
pub entered_plain : (old new : Calls) (p : ℕ) (v : List Value) (ws : List Entry) → new.plain ≡ record { point = p; values = v } ∷ old.plain
    → ((q : ℕ) (m : ℤ) → values_under q m new.nonces ≡ values_under q m old.nonces) → Holds old ws → Holds new (entry p None v ∷ ws)
entered_plain old new p v ws pushed same h = record {
  plain = pushed ∙ ap (λ l. record { point = p; values = v } ∷ l) h.plain;
  nonces = λ (q : ℕ) (m : ℤ). same q m ∙ h.nonces q m
      ∙ sym (ap (λ (c : Bool). map (λ (w : Entry). w.values) (if c then entry p None v ∷ filter (is_of q (Some m)) ws else filter (is_of q (Some m)) ws)) (and_false (p == q)));
}

-- an entry with a nonce
pub entered_nonced : (old new : Calls) (p : ℕ) (n : ℤ) (v : List Value) (ws : List Entry) → new.plain ≡ old.plain
    → ((q : ℕ) (m : ℤ) → values_under q m new.nonces ≡ (if same_key (p, n) (q, m) then v ∷ values_under q m old.nonces else values_under q m old.nonces))
    → Holds old ws → Holds new (entry p (Some n) v ∷ ws)
entered_nonced old new p n v ws same pushed h = record {
  plain = same ∙ h.plain;
  nonces = λ (q : ℕ) (m : ℤ). pushed q m ∙ by q m (same_key (p, n) (q, m));
}
  where
    by : (q : ℕ) (m : ℤ) (b : Bool) → (if b then v ∷ values_under q m old.nonces else values_under q m old.nonces)
        ≡ map (λ (w : Entry). w.values) (if b then entry p (Some n) v ∷ filter (is_of q (Some m)) ws else filter (is_of q (Some m)) ws)
    by q m true = ap (λ (l : List (List Value)). v ∷ l) (h.nonces q m)
    by q m false = h.nonces q m

-- an exit without a nonce
pub took_plain : (old new : Calls) (e : ℕ) (ws : List Entry) → new.plain ≡ below_first (is_at e) old.plain
    → ((q : ℕ) (m : ℤ) → values_under q m new.nonces ≡ values_under q m old.nonces) → is_some (taken_by e None ws) ≡ true → Holds old ws → Holds new (left_by e None ws)
took_plain old new e ws cut same taken h =
    let left : left_by e None ws ≡ without_plain e ws = ap (λ (b : Bool). if b then without_plain e ws else ws) (any_taken (is_of e None) ws taken) in
    let P : List Entry → Type 0 = λ l. Holds new l in
    let held_left : Holds new (without_plain e ws) = record {
      plain = cut ∙ ap (below_first (is_at e)) h.plain ∙ sym (left_plain e ws);
      nonces = λ (q : ℕ) (m : ℤ). same q m ∙ h.nonces q m
          ∙ sym (ap (map (λ (w : Entry). w.values)) (plain_other e (is_of q (Some m)) (plain_is_not_nonced q m) ws));
    } in
    subst P (sym left) held_left

drop_map : (n : ℕ) (b : Bool) (ws : List Entry) → (if b then drop 1 (map (λ (w : Entry). w.values) ws) else map (λ (w : Entry). w.values) ws)
    ≡ map (λ (w : Entry). w.values) (if b then drop 1 ws else ws)
drop_map n true [] = refl
drop_map n true (w ∷ ws) = refl
drop_map n false ws = refl

-- an exit with a nonce
pub took_nonced : (old new : Calls) (e : ℕ) (n : ℤ) (ws : List Entry) → new.plain ≡ old.plain
    → ((q : ℕ) (m : ℤ) → values_under q m new.nonces ≡ (if same_key (e, n) (q, m) then drop 1 (values_under q m old.nonces) else values_under q m old.nonces))
    → Holds old ws → Holds new (left_by e (Some n) ws)
took_nonced old new e n ws same popped h = record {
  plain = same ∙ h.plain ∙ sym (ap (map plain_entry) (other_left (is_of e (Some n)) is_plain (nonced_is_not_plain e n) ws));
  nonces = λ (q : ℕ) (m : ℤ). popped q m
      ∙ ap (λ (l : List (List Value)). if same_key (e, n) (q, m) then drop 1 l else l) (h.nonces q m)
      ∙ drop_map 0 (same_key (e, n) (q, m)) (filter (is_of q (Some m)) ws)
      ∙ sym (ap (map (λ (w : Entry). w.values)) (left_nonce e q n m ws));
}

-- a declared entry matches no entry
no_entry : (ps : List Point) (i : ℕ) → is_entry_at ps i ≡ true → entry_of ps i ≡ None
unfolding is_entry_at entry_of entry_before
no_entry ps i h = by (slice_get ps i) h
  where
    of_role : (r : Role) (found : Option ℕ) → is_entry r ≡ true → (if is_exit r then found else None) ≡ None
    of_role role.Entry found e = refl
    of_role role.Combined found e = absurd (cc e)
    of_role role.Subexit found e = absurd (cc e)
    of_role role.Plain found e = absurd (cc e)

    declared : (q : Point) (b : Bool) → option_map_or (λ d. is_entry (role_of d.name)) (if b then None else Some q.decl) false ≡ true
        → (if is_exit (role_of q.decl.name) then place_of (names (take i ps)) (entry_name q.decl.name) else None) ≡ None
    declared q true e = absurd (cc e)
    declared q false e = of_role (role_of q.decl.name) (place_of (names (take i ps)) (entry_name q.decl.name)) e

    by : (o : Option Point) → option_map_or (λ d. is_entry (role_of d.name)) (option_and_then decl_if_declared o) false ≡ true
        → option_and_then (λ q. if is_exit (role_of q.decl.name) then place_of (names (take i ps)) (entry_name q.decl.name) else None) o ≡ None
    by None e = refl
    by (Some q) e = declared q q.is_implicit e

pub call_of_entry : (ps : List Point) (s : Sample) → is_entry_at ps s.point ≡ true → call_of ps s ≡ enters (entry_with s)
unfolding call_of
call_of_entry ps s h =
    ap (λ (o : Option ℕ). option_map_or (λ e. exits e s.nonce) o (if is_entry_at ps s.point then enters (entry_with s) else other)) (no_entry ps s.point h)
    ∙ ap (λ (b : Bool). if b then enters (entry_with s) else other) h

pub call_of_exit : (ps : List Point) (s : Sample) (e : ℕ) → entry_of ps s.point ≡ Some e → call_of ps s ≡ exits e s.nonce
unfolding call_of
call_of_exit ps s e h = ap (λ (o : Option ℕ). option_map_or (λ e. exits e s.nonce) o (if is_entry_at ps s.point then enters (entry_with s) else other)) h

given : (ps : List Point) (s : Sample) (earlier : List Call) (e : ℕ) → entry_of ps s.point ≡ Some e
    → values_at_exit ps s earlier ≡ (or_refused UnmatchedExit s.line (taken_by e s.nonce (waiting_of earlier)) >>= λ w. Ok (with_entry ps s w))
unfolding values_at_exit
given ps s earlier e h = ap (λ (c : Call). or_refused UnmatchedExit s.line (entry_of_call c earlier) >>= λ w. Ok (with_entry ps s w)) (call_of_exit ps s e h)

-- an exit for which no entry waits
pub exit_refused : (ps : List Point) (s : Sample) (earlier : List Call) (e : ℕ) → entry_of ps s.point ≡ Some e
    → None ≡ option_map (λ (w : Entry). w.values) (taken_by e s.nonce (waiting_of earlier)) → values_at_exit ps s earlier ≡ refused UnmatchedExit s.line
exit_refused ps s earlier e h none = given ps s earlier e h ∙ by (taken_by e s.nonce (waiting_of earlier)) none
  where
    by : (o : Option Entry) → None ≡ option_map (λ (w : Entry). w.values) o → (or_refused UnmatchedExit s.line o >>= λ w. Ok (with_entry ps s w)) ≡ refused UnmatchedExit s.line
    by None none = refl
    by (Some w) none = absurd (cc none)

-- an exit with its entry
pub exit_given : (ps : List Point) (s : Sample) (earlier : List Call) (e : ℕ) (kept views : List Value) → entry_of ps s.point ≡ Some e
    → Some kept ≡ option_map (λ (w : Entry). w.values) (taken_by e s.nonce (waiting_of earlier))
    → ((w : Entry) → taken_by e s.nonce (waiting_of earlier) ≡ Some w → w.point ≡ e)
    → views ≡ s.values ++ orig_values (own_vars ps e) (own_vars ps s.point) kept → values_at_exit ps s earlier ≡ Ok views
exit_given ps s earlier e kept views h some own are = given ps s earlier e h ∙ by (taken_by e s.nonce (waiting_of earlier)) some own
  where
    by : (o : Option Entry) → Some kept ≡ option_map (λ (w : Entry). w.values) o → ((w : Entry) → o ≡ Some w → w.point ≡ e)
        → (or_refused UnmatchedExit s.line o >>= λ w. Ok (with_entry ps s w)) ≡ Ok views
    by None some own = absurd (cc some)
    by (Some w) some own =
        let same : kept ≡ w.values = cc some in
        let point : e ≡ w.point = sym (own w refl) in
        ap (λ (vs : List Value). Ok vs)
        (sym (are
        ∙ ap (λ (vs : List Value). s.values ++ orig_values (own_vars ps e) (own_vars ps s.point) vs) same
        ∙ ap (λ (p : ℕ). s.values ++ orig_values (own_vars ps p) (own_vars ps s.point) w.values) point))

pub some_taken : (o : Option Entry) (kept : List Value) → Some kept ≡ option_map (λ (w : Entry). w.values) o → is_some o ≡ true
some_taken None kept e = cc e
some_taken (Some w) kept e = refl
