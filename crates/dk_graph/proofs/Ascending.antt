-- Links stand by child and then by number.
use Rattle.std.proofs.Common.{◌≡◌, ◌∙◌, ℕ, suc, ◌+◌, ◌<◌, ◌≤◌, inl, inr, List, [], ◌∷◌, ◌++◌, length, map, flat_map, append_assoc, append-nil, ap, sym, arith}
use Rattle.std.specs.List.{enumerate_from}
use Rattle.dk_graph.specs.Graphs.{Link, links, links_at, links_to_parents}
use Rattle.dk_graph.specs.declared.nodes.Node.{Node}
use Rattle.dk_graph.proofs.Members.{Has, has-none, has-first, has-later, has-cons, has-append}

-- a later link of the same child has a greater number
abbrev pub Ascends : List Link → Type 0
Ascends [] = Unit {0}
Ascends (l ∷ ls) = ((m : Link) → Has ls m → m.child ≡ l.child → l.number < m.number) × Ascends ls

abbrev numbered : ℕ → ℕ × List ℕ → Link
numbered place l = record { child = place; number = l.0; parent = l.1 }

numbers-from : (place k : ℕ) (parents : List (List ℕ)) (m : Link) → Has (map (numbered place) (enumerate_from k parents)) m → (k ≤ m.number) × (m.child ≡ place)
numbers-from place k [] m h = absurd (has-none m h)
numbers-from place k (p ∷ parents) m h = elim (has-cons (numbered place (k, p)) (map (numbered place) (enumerate_from (k + 1) parents)) m h) [
  | inl same ↦ (let at : k ≡ m.number = ap (λ l. l.number) same in omega (arith, at), ap (λ l. l.child) (sym same))
  | inr later ↦ let found = numbers-from place (k + 1) parents m later in (omega (arith, found.0), found.1)
]

ascends-from : (place k : ℕ) (parents : List (List ℕ)) → Ascends (map (numbered place) (enumerate_from k parents))
ascends-from place k [] = tt
ascends-from place k (p ∷ parents) =
    (λ m there same. let found = numbers-from place (k + 1) parents m there in omega (arith, found.0), ascends-from place (k + 1) parents)

-- a point's own links have it as their child
pub own-child : (place : ℕ) (parents : List (List ℕ)) (m : Link) → Has (links_to_parents place parents) m → m.child ≡ place
own-child place parents m h = (numbers-from place 0 parents m h).1

ascends-append : (ls ms : List Link) → Ascends ls → Ascends ms → ((l m : Link) → Has ls l → Has ms m → m.child ≡ l.child → ⊥) → Ascends (ls ++ ms)
ascends-append [] ms a b apart = b
ascends-append (l ∷ ls) ms a b apart = (
  λ m there same. elim (has-append ls ms m there) [
    | inl here ↦ a.0 m here same
    | inr later ↦ absurd (apart l m (has-first l ls) later same)
  ],
  ascends-append ls ms a.1 b (λ k m here. apart k m (has-later l ls k here)),
)

children-from : (i : ℕ) (ns : List Node) (m : Link) → Has (flat_map links_at (enumerate_from i ns)) m → i ≤ m.child
children-from i [] m h = absurd (has-none m h)
children-from i (n ∷ ns) m h = elim (has-append (links_to_parents i n.links) (flat_map links_at (enumerate_from (i + 1) ns)) m h) [
  | inl here ↦ let same = own-child i n.links m here in omega (arith, same)
  | inr later ↦ omega (arith, children-from (i + 1) ns m later)
]

ascends-all : (i : ℕ) (ns : List Node) → Ascends (flat_map links_at (enumerate_from i ns))
ascends-all i [] = tt
ascends-all i (n ∷ ns) = ascends-append (links_to_parents i n.links) (flat_map links_at (enumerate_from (i + 1) ns)) (ascends-from i 0 n.links) (ascends-all (i + 1) ns)
    (λ l m here later same. let own = own-child i n.links l here in let above = children-from (i + 1) ns m later in omega (arith, own, above, same))

pub ascends-links : (ns : List Node) → Ascends (links ns)
unfolding links
ascends-links ns = ascends-all 0 ns

-- ---- one point more

links-all : (i : ℕ) (ns : List Node) (n : Node)
    → flat_map links_at (enumerate_from i (ns ++ n ∷ [])) ≡ flat_map links_at (enumerate_from i ns) ++ links_to_parents (i + length ns) n.links
links-all i [] n = append-nil (links_to_parents i n.links) ∙ ap (λ k. links_to_parents k n.links) (plus-zero i)
  where
    plus-zero : (i : ℕ) → i ≡ i + 0
    plus-zero i = omega arith
links-all i (m ∷ ns) n =
    ap (λ ls. links_to_parents i m.links ++ ls) (links-all (i + 1) ns n)
    ∙ sym (append_assoc (links_to_parents i m.links) (flat_map links_at (enumerate_from (i + 1) ns)) (links_to_parents (i + 1 + length ns) n.links))
    ∙ ap (λ k. (links_to_parents i m.links ++ flat_map links_at (enumerate_from (i + 1) ns)) ++ links_to_parents k n.links) (plus-suc i (length ns))
  where
    plus-suc : (i k : ℕ) → i + 1 + k ≡ i + suc k
    plus-suc i k = omega arith

pub links-push : (ns : List Node) (n : Node) → links (ns ++ n ∷ []) ≡ links ns ++ links_to_parents (length ns) n.links
unfolding links
links-push ns n = links-all 0 ns n ∙ ap (λ k. flat_map links_at (enumerate_from 0 ns) ++ links_to_parents k n.links) (zero-plus (length ns))
  where
    zero-plus : (k : ℕ) → 0 + k ≡ k
    zero-plus k = omega arith
