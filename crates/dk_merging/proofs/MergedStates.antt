-- What is answered of two states.
use Rattle.std.specs.Prelude.{◌≡◌, ℕ, Bool, List, Result, Ok, Err, map, refl}
use Rattle.std.proofs.Common.{◌∙◌, ap, subst, sym}
use Rattle.dk_engine.specs.Reading.Levels.{Whole}
use Rattle.dk_hierarchy.specs.Samples.{OwnSamples}
use Rattle.dk_join.specs.declared.joining.JoinFault.{JoinFault}
use Rattle.dk_join.specs.declared.joining.JoinFault.TheVariants as join
use Rattle.dk_points.specs.Table.{Point}
use Rattle.dk_state.specs.Loading.{AreLoadedAs}
use Rattle.dk_state.specs.Saved.{saved_text}
use Rattle.dk_state.specs.Spelling.{CanBeSaved, IsSpelling, content_of, saved_parts}
use Rattle.dk_state.specs.StateFile.{StandForHistory, state_file_of}
use Rattle.dk_state.specs.declared.loading.Loaded.{Loaded}
use Rattle.dk_state.proofs.Histories.{content_text, history_meets}
use Rattle.dk_state.proofs.Loads.{content_loaded, loaded_meets, loaded_text}
use Rattle.dk_state.proofs.SameTexts.{saved_is_state_file}
use Rattle.dk_template.specs.declared.grammar.Grammar.{Grammar}
use Rattle.dk_merging.specs.Engines.{HaveNoJoinSomewhere}
use Rattle.dk_merging.specs.Faults.{IsJoinFault}
use Rattle.dk_merging.specs.Fronts.{front_of}
use Rattle.dk_merging.specs.Loading.{AreOfOneHead, IsBadOr, IsLoadOf, IsOfBoth, IsOfHistory, MakesBoth, head_of, text_of, texts_of}
use Rattle.dk_merging.specs.Merging.{AnswersMerge, CanBeMerged, GivesBoth, Head, Says, file_of_both, own_of_both}
use Rattle.dk_merging.specs.declared.merging.MergeFault.{MergeFault}
use Rattle.dk_merging.specs.declared.merging.MergeFault.TheVariants.{BadFirst, BadSecond, Different, Joined, NoMemory}
use Rattle.dk_merging.proofs.EnginesOfBoth.{both_of_grammar, both_of_table, both_saved, both_stand, none_unjoined}
use Rattle.dk_merging.proofs.Heads.{all_alike, one_front, one_head}
use Rattle.dk_merging.proofs.Standing.{both_loaded, stand_for_history}

-- ---- one state
pub bad_bytes : (bytes : List ℕ) (bad : MergeFault) → (IsSpelling bytes → ⊥) → IsBadOr bytes bad bad
bad_bytes bytes BadFirst none = (refl, none)
bad_bytes bytes BadSecond none = (refl, none)
bad_bytes bytes Different none = (refl, none)
bad_bytes bytes Joined none = (refl, none)
bad_bytes bytes NoMemory none = tt

-- the state file of a history is one
pub history_spelled : (g : Grammar) (ps : List Point) (implicit : Bool) (own : OwnSamples) (bytes : List ℕ) → CanBeSaved g ps own → state_file_of g ps implicit own ≡ bytes → IsSpelling bytes
history_spelled g ps implicit own bytes can is = record {
  content = content_of g ps implicit own;
  meets = history_meets g ps implicit own can;
  text = content_text g ps implicit own ∙ is;
}

pub first_bad : (first second : List ℕ) (e : MergeFault) → IsBadOr first BadFirst e → AnswersMerge first second (Err e)
first_bad first second BadFirst h = h.1
first_bad first second BadSecond h = absurd (cc h.0)
first_bad first second Different h = absurd (cc h.0)
first_bad first second Joined h = absurd (cc h.0)
first_bad first second NoMemory h = tt

pub second_bad : (first second : List ℕ) → IsSpelling first → (e : MergeFault) → IsBadOr second BadSecond e → AnswersMerge first second (Err e)
second_bad first second is BadFirst h = absurd (cc h.0)
second_bad first second is BadSecond h = (is, h.1)
second_bad first second is Different h = absurd (cc h.0)
second_bad first second is Joined h = absurd (cc h.0)
second_bad first second is NoMemory h = tt

-- a spelling is not bad
pub none_bad : (both bytes : List ℕ) (bad e : MergeFault) → IsSpelling bytes → IsBadOr bytes bad e → GivesBoth both (Err e)
none_bad both bytes bad BadFirst is h = h.1 is
none_bad both bytes bad BadSecond is h = h.1 is
none_bad both bytes bad Different is h = h.1 is
none_bad both bytes bad Joined is h = h.1 is
none_bad both bytes bad NoMemory is h = tt

-- what is said by engines that can be saved is one
pub said_spelled : (head : Head) (engines : List Whole) (bytes : List ℕ) → Says head engines bytes → IsSpelling bytes
said_spelled head engines bytes says =
    let l : Loaded = record { points = head.points; engines = engines; implicit = head.implicit; grammar = head.grammar } in
    record {
      content = content_loaded l;
      meets = loaded_meets l says.table says.of_table.long says.saved;
      text = loaded_text l ∙ says.text;
    }

-- ---- two states
module _ (one other : Loaded) (first second : List ℕ) (is : IsLoadOf first one) (also : IsLoadOf second other) where
  pub of_one_head : front_of second ≡ front_of first → AreOfOneHead one other
  of_one_head e =
      let same : head_of other ≡ head_of one = one_head (head_of one) (head_of other) one.engines other.engines first second is.says also.says e in
      let says : Says (head_of one) other.engines second = subst (λ h. Says h other.engines second) same also.says in
      record {
        same = same;
        alike = all_alike one.grammar one.points one.engines other.engines is.says.of_table says.of_table is.says.of_grammar says.of_grammar;
      }

  -- the engines of both are what the text of both says
  both_says : (both : Loaded) → front_of second ≡ front_of first → IsOfBoth one other both → Says (head_of both) both.engines (text_of both)
  both_says both e made =
      let same : head_of other ≡ head_of one = one_head (head_of one) (head_of other) one.engines other.engines first second is.says also.says e in
      let says : Says (head_of one) other.engines second = subst (λ h. Says h other.engines second) same also.says in
      let of_table = both_of_table one.grammar one.points one.engines other.engines both.engines is.says.of_table says.of_table is.says.of_grammar says.of_grammar made.each in
      let of_grammar = both_of_grammar one.grammar one.points one.engines other.engines both.engines is.says.of_table says.of_table is.says.of_grammar says.of_grammar made.each in
      let saved = both_saved one.grammar one.points one.engines other.engines both.engines is.says.of_table says.of_table is.says.of_grammar says.of_grammar made.each is.says.saved says.saved made.within in
      let kept = map (λ (engine : Whole). engine.kept) both.engines in
      let head = sym made.head in
      subst (λ (h : Head). Says h both.engines (text_of both)) head (record {
        table = is.says.table;
        of_table = of_table;
        of_grammar = of_grammar;
        saved = saved;
        text = ap (λ (h : Head). saved_text h.grammar h.points h.implicit kept) head;
      })

  pub merged_answers : front_of second ≡ front_of first → (r : Result Loaded MergeFault) → MakesBoth one other r → AnswersMerge first second (texts_of r)
  merged_answers e (Ok both) made =
      let same : head_of other ≡ head_of one = one_head (head_of one) (head_of other) one.engines other.engines first second is.says also.says e in
      let text_says : Says (head_of one) both.engines (text_of both) = subst (λ (h : Head). Says h both.engines (text_of both)) made.head (both_says both e made) in
      record {
        alike = record { first_is = is.spelling; second_is = also.spelling; fronts = e };
        head = head_of one;
        ones = one.engines;
        others = other.engines;
        both = both.engines;
        first_says = is.says;
        second_says = subst (λ h. Says h other.engines second) same also.says;
        each = made.each;
        text_says = text_says;
        spelling = said_spelled (head_of one) both.engines (text_of both) text_says;
      }
  merged_answers e (Err BadFirst) made = absurd made
  merged_answers e (Err BadSecond) made = absurd made
  merged_answers e (Err Different) made = absurd made
  merged_answers e (Err Joined) made =
      let same : head_of other ≡ head_of one = one_head (head_of one) (head_of other) one.engines other.engines first second is.says also.says e in
      record {
        alike = record { first_is = is.spelling; second_is = also.spelling; fronts = e };
        head = head_of one;
        ones = one.engines;
        others = other.engines;
        first_says = is.says;
        second_says = subst (λ h. Says h other.engines second) same also.says;
        nowhere = made;
      }
  merged_answers e (Err NoMemory) made = tt

  -- both could have been loaded of that text
  pub both_is_load : (both : Loaded) → front_of second ≡ front_of first → IsOfBoth one other both → IsLoadOf (text_of both) both
  both_is_load both e made =
      let same : head_of other ≡ head_of one = one_head (head_of one) (head_of other) one.engines other.engines first second is.says also.says e in
      let says : Says (head_of one) other.engines second = subst (λ h. Says h other.engines second) same also.says in
      let AsLoaded : Head → List Whole → Type 0 = λ h engines. AreLoadedAs h.grammar h.points (map (λ (engine : Whole). saved_parts engine.kept) engines) engines in
      let loaded : AsLoaded (head_of both) both.engines =
      subst (λ (h : Head). AsLoaded h both.engines) (sym made.head)
      (both_loaded one.grammar one.points one.engines other.engines both.engines is.says.of_table says.of_table is.says.of_grammar made.each made.sound is.loaded
      (subst (λ (h : Head). AsLoaded h other.engines) same also.loaded)) in
      let text_says = both_says both e made in
      record {
        spelling = said_spelled (head_of both) both.engines (text_of both) text_says;
        says = text_says;
        loaded = loaded;
        stands = λ g ps implicit own can text. stand_for_history g ps implicit own can both (text_of both) text_says loaded text;
      }

  -- it declares what the first does
  pub both_front : (both : Loaded) → front_of second ≡ front_of first → IsOfBoth one other both → front_of (text_of both) ≡ front_of first
  both_front both e made = one_front (head_of one) (head_of both) one.engines both.engines first (text_of both) is.says (both_says both e made) made.head

  -- ---- of histories
  pub history_fronts : (g : Grammar) (ps : List Point) (implicit : Bool) (own others : OwnSamples) → IsOfHistory one g ps implicit own → IsOfHistory other g ps implicit others
      → front_of second ≡ front_of first
  history_fronts g ps implicit own others this that =
      let grammars : other.grammar ≡ one.grammar = that.grammar ∙ sym this.grammar in
      let points : other.points ≡ one.points = that.points ∙ sym this.points in
      let words : other.implicit ≡ one.implicit = that.word ∙ sym this.word in
      one_front (head_of one) (head_of other) one.engines other.engines first second is.says also.says
      (λ i. record { grammar = grammars i; points = points i; implicit = words i })

pub history_made : (one other : Loaded) (g : Grammar) (ps : List Point) (implicit : Bool) (own others : OwnSamples) → IsOfHistory one g ps implicit own → IsOfHistory other g ps implicit others
    → CanBeMerged g ps own others → (r : Result Loaded MergeFault) → MakesBoth one other r → GivesBoth (file_of_both g ps implicit own others) (texts_of r)
history_made one other g ps implicit own others this that can (Ok both) made =
    let all = own_of_both own others in
    let stand : StandForHistory g ps both.engines all = both_stand g ps one.engines other.engines own others this.stand that.stand both.engines made.each in
    let grammars : both.grammar ≡ g = ap (λ (h : Head). h.grammar) made.head ∙ this.grammar in
    let points : both.points ≡ ps = ap (λ (h : Head). h.points) made.head ∙ this.points in
    let words : both.implicit ≡ implicit = ap (λ (h : Head). h.implicit) made.head ∙ this.word in
    (λ i. saved_text (grammars i) (points i) (words i) (map (λ (engine : Whole). engine.kept) both.engines)) ∙ saved_is_state_file g ps implicit both.engines all stand
history_made one other g ps implicit own others this that can (Err BadFirst) made = made
history_made one other g ps implicit own others this that can (Err BadSecond) made = made
history_made one other g ps implicit own others this that can (Err Different) made = made
history_made one other g ps implicit own others this that can (Err Joined) made =
    none_unjoined g ps one.engines other.engines own others this.stand that.stand can.few made
history_made one other g ps implicit own others this that can (Err NoMemory) made = tt

-- ---- answers with their texts
-- a fault of a join
pub join_fault_made : (one other : Loaded) (e : JoinFault) (f : MergeFault) → (e ≡ join.Joined → HaveNoJoinSomewhere one.engines other.engines) → IsJoinFault e f → MakesBoth one other (Err f)
join_fault_made one other join.Joined f none is = subst (λ (m : MergeFault). MakesBoth one other (Err m)) (sym is) (none refl)
join_fault_made one other join.NoMemory f none is = subst (λ (m : MergeFault). MakesBoth one other (Err m)) (sym is) tt
