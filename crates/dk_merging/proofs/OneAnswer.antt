-- All readings of two files come to one answer.
use Rattle.std.specs.Prelude.{◌≡◌, ◌≢◌, ◌<◌, ◌∷◌, [], ℕ, zero, suc, List, Ok, Err, Option, Some, flat_map, length, map, refl, slice_get}
use Rattle.std.specs.List.{enumerate_from}
use Rattle.std.proofs.Common.{◌∙◌, ap, arith, subst, sym}
use Rattle.dk_engine.specs.Reading.Levels.{Whole}
use Rattle.dk_engine.specs.declared.saved.parts.Parts.{Parts}
use Rattle.dk_graph.proofs.Places.{some-injective}
use Rattle.dk_state.specs.Declarations.{decls_of}
use Rattle.dk_state.specs.Saved.{saved_text, state_text}
use Rattle.dk_state.specs.Spelling.{saved_lines, saved_parts}
use Rattle.dk_state.proofs.Loads.{map-map, saved_alike}
use Rattle.dk_merging.specs.Laws.{AnswersAreDetermined, ReadingsSaveTheSame}
use Rattle.dk_merging.specs.Merging.{AnswersMerge, CannotBeJoined, Head, IsMerged, Says}
use Rattle.dk_merging.specs.declared.merging.MergeFault.{MergeFault}
use Rattle.dk_merging.specs.declared.merging.MergeFault.TheVariants.{BadFirst, BadSecond, Different, Joined, NoMemory}
use Rattle.dk_merging.proofs.EnginesOfBoth.{at_both, at_zip}
use Rattle.dk_merging.proofs.Heads.{all_at, one_head, some_within}
use Rattle.dk_merging.proofs.OneJoin.{AreTwoReadings, no_engine, one_engine}
use Rattle.dk_merging.proofs.Readings.{same_saved}

-- ---- lists
there : {X Y : Type 0} (f : X → Y) (xs : List X) (i : ℕ) (x : X) → slice_get xs i ≡ Some x → slice_get (map f xs) i ≡ Some (f x)
there f [] i x e = absurd (cc e)
there f (y ∷ xs) zero x e = ap (λ z. Some (f z)) (some-injective e)
there f (y ∷ xs) (suc i) x e = there f xs i x e

each_same : {X Y : Type 0} (f : X → Y) (xs ys : List X) → length xs ≡ length ys → ((i : ℕ) (x y : X) → slice_get xs i ≡ Some x → slice_get ys i ≡ Some y → f x ≡ f y) → map f xs ≡ map f ys
each_same f [] [] long each = refl
each_same f [] (y ∷ ys) long each = absurd (omega (arith, long))
each_same f (x ∷ xs) [] long each = absurd (omega (arith, long))
each_same f (x ∷ xs) (y ∷ ys) long each =
    let first = each 0 x y refl refl in
    let rest = each_same f xs ys (omega (arith, long)) (λ i. each (suc i)) in
    λ i. first i ∷ rest i

-- ---- readings
abbrev saved_of : Whole → Option Parts
saved_of e = saved_parts e.kept

-- two readings of one file, point by point
two_readings : (head : Head) (ones others : List Whole) (bytes : List ℕ) → Says head ones bytes → Says head others bytes → (i : ℕ) (one other : Whole) → slice_get ones i ≡ Some one → slice_get others i ≡ Some other
    → AreTwoReadings one other
two_readings head ones others bytes says also i one other at here =
    let Of : Whole → Type 0 = λ e. e.grammar ≡ head.grammar in
    record {
      grammar = all_at Of others i other also.of_grammar here ∙ sym (all_at Of ones i one says.of_grammar at);
      infos = (also.of_table.variables i other here).0 ∙ sym (says.of_table.variables i one at).0;
      saved = some-injective (sym (there saved_of ones i one at) ∙ ap (λ (l : List (Option Parts)). slice_get l i) (same_saved head ones others bytes says also) ∙ there saved_of others i other here);
    }

-- their heads are the same
pub readings_save_the_same : ReadingsSaveTheSame
readings_save_the_same bytes head other ones others says also =
    let same : other ≡ head = one_head head other ones others bytes bytes says also refl in
    (same, same_saved head ones others bytes says (subst (λ h. Says h others bytes) same also))

-- ---- merged texts
saved_again : (head : Head) (both others : List Whole) → map saved_of both ≡ map saved_of others
    → saved_text head.grammar head.points head.implicit (map (λ e. e.kept) both) ≡ saved_text head.grammar head.points head.implicit (map (λ e. e.kept) others)
unfolding saved_text
saved_again head both others e =
    let told = λ (es : List Whole). sym (saved_alike 0 (map (λ (w : Whole). w.kept) es)) ∙ ap (λ (l : List (Option Parts)). flat_map saved_lines (enumerate_from 0 l)) (map-map (λ (w : Whole). w.kept) saved_parts es) in
    ap (state_text head.grammar (decls_of head.points) head.implicit) (told both ∙ ap (λ (l : List (Option Parts)). flat_map saved_lines (enumerate_from 0 l)) e ∙ sym (told others))

module _ (first second : List ℕ) where
  -- the readings of two merges, under the head of the one
  abbrev Under : Head → List Whole → List Whole → Type 0
  Under head ones others = Says head ones first × Says head others second

  one_text : (text other : List ℕ) → IsMerged first second text → IsMerged first second other → text ≡ other
  one_text text other is also =
      let same : also.head ≡ is.head = one_head is.head also.head is.ones also.ones first first is.first_says also.first_says refl in
      let firsts : Says is.head also.ones first = subst (λ h. Says h also.ones first) same also.first_says in
      let seconds : Says is.head also.others second = subst (λ h. Says h also.others second) same also.second_says in
      let texts : Says is.head also.both other = subst (λ h. Says h also.both other) same also.text_says in
      let long : length is.ones ≡ length is.others = is.first_says.of_table.long ∙ sym is.second_says.of_table.long in
      let also_long : length also.ones ≡ length also.others = firsts.of_table.long ∙ sym seconds.of_table.long in
      let both : map saved_of is.both ≡ map saved_of also.both =
      each_same saved_of is.both also.both (is.text_says.of_table.long ∙ sym texts.of_table.long) (λ i e f at here.
      let one = at_both is.ones is.others is.both long is.each i e at in
      let two = at_both also.ones also.others also.both also_long also.each i f here in
      one_engine one.0 one.1 two.0 two.1 (two_readings is.head is.ones also.ones first is.first_says firsts i one.0 two.0 one.2 two.2) (two_readings is.head is.others also.others second is.second_says seconds i one.1 two.1 one.3 two.3)
      e f one.4 two.4) in
      sym is.text_says.text ∙ saved_again is.head is.both also.both both ∙ texts.text

  never_both : (text : List ℕ) → IsMerged first second text → CannotBeJoined first second → ⊥
  never_both text is none =
      let same : none.head ≡ is.head = one_head is.head none.head is.ones none.ones first first is.first_says none.first_says refl in
      let firsts : Says is.head none.ones first = subst (λ h. Says h none.ones first) same none.first_says in
      let seconds : Says is.head none.others second = subst (λ h. Says h none.others second) same none.second_says in
      let long : length is.ones ≡ length is.others = is.first_says.of_table.long ∙ sym is.second_says.of_table.long in
      let i = none.nowhere.0 in
      let pair = none.nowhere.1 in
      let at = at_zip none.ones none.others i pair none.nowhere.2 none.nowhere.3 in
      let engine = found is.both i (within i pair at firsts is.text_says) in
      let one = at_both is.ones is.others is.both long is.each i engine.0 engine.1 in
      no_engine one.0 one.1 pair.0 pair.1 (two_readings is.head is.ones none.ones first is.first_says firsts i one.0 pair.0 one.2 at.0) (two_readings is.head is.others none.others second is.second_says seconds i one.1 pair.1 one.3 at.1)
      engine.0 one.4 none.nowhere.4
    where
      within : (i : ℕ) (pair : Whole × Whole) → (slice_get none.ones i ≡ Some pair.0) × (slice_get none.others i ≡ Some pair.1) → Says is.head none.ones first → Says is.head is.both text → i < length is.both
      within i pair at firsts texts =
          let l = some_within none.ones i pair.0 at.0 in
          let these = firsts.of_table.long in
          let those = texts.of_table.long in
          omega (arith, l, these, those)

      found : (xs : List Whole) (i : ℕ) → i < length xs → (x : Whole) × (slice_get xs i ≡ Some x)
      found [] i l = absurd (omega (arith, l))
      found (x ∷ xs) zero l = (x, refl)
      found (x ∷ xs) (suc i) l = found xs i (omega (arith, l))

  -- ---- answers
  none_else : (text : List ℕ) (f : MergeFault) → f ≢ NoMemory → IsMerged first second text → AnswersMerge first second (Err f) → ⊥
  none_else text BadFirst n is h = h is.alike.first_is
  none_else text BadSecond n is h = h.1 is.alike.second_is
  none_else text Different n is h = h.2 is.alike.fronts
  none_else text Joined n is h = never_both text is h
  none_else text NoMemory n is h = n refl

  -- what is so of two files for which a fault is told
  one_fault : (f g : MergeFault) → f ≢ NoMemory → g ≢ NoMemory → AnswersMerge first second (Err f) → AnswersMerge first second (Err g) → f ≡ g
  one_fault BadFirst BadFirst n m h k = refl
  one_fault BadFirst BadSecond n m h k = absurd (h k.0)
  one_fault BadFirst Different n m h k = absurd (h k.0)
  one_fault BadFirst Joined n m h k = absurd (h k.alike.first_is)
  one_fault BadSecond BadFirst n m h k = absurd (k h.0)
  one_fault BadSecond BadSecond n m h k = refl
  one_fault BadSecond Different n m h k = absurd (h.1 k.1)
  one_fault BadSecond Joined n m h k = absurd (h.1 k.alike.second_is)
  one_fault Different BadFirst n m h k = absurd (k h.0)
  one_fault Different BadSecond n m h k = absurd (k.1 h.1)
  one_fault Different Different n m h k = refl
  one_fault Different Joined n m h k = absurd (h.2 k.alike.fronts)
  one_fault Joined BadFirst n m h k = absurd (k h.alike.first_is)
  one_fault Joined BadSecond n m h k = absurd (k.1 h.alike.second_is)
  one_fault Joined Different n m h k = absurd (k.2 h.alike.fronts)
  one_fault Joined Joined n m h k = refl
  one_fault NoMemory g n m h k = absurd (n refl)
  one_fault f NoMemory n m h k = absurd (m refl)

pub answers_are_determined : AnswersAreDetermined
answers_are_determined first second (Ok text) (Ok other) n m h k = ap (λ (t : List ℕ). Ok t) (one_text first second text other h k)
answers_are_determined first second (Ok text) (Err f) n m h k = absurd (none_else first second text f (λ e. m (ap (λ (g : MergeFault). Err g) e)) h k)
answers_are_determined first second (Err f) (Ok text) n m h k = absurd (none_else first second text f (λ e. n (ap (λ (g : MergeFault). Err g) e)) k h)
answers_are_determined first second (Err f) (Err g) n m h k =
    ap (λ (e : MergeFault). Err e) (one_fault first second f g (λ e. n (ap (λ (z : MergeFault). Err z) e)) (λ e. m (ap (λ (z : MergeFault). Err z) e)) h k)
