use Rattle.std.proofs.Common.{◌≡◌, ◌*◌, ◌&&◌, Bool, List, count_by, take}
use Rattle.dk_presence.specs.Patterns.{capped}
use Rattle.dk_presence.specs.declared.held.Held.{Held}
use Rattle.dk_bitmaps.specs.Bitmaps.{IsBitmap}
use Rattle.dk_bitmaps.proofs.counting.common.Given as goal

abbrev pub invariant-loop-j : goal.invariant-loop-j
invariant-loop-j l =
    (held : List Held) (p q r s : Held → Bool) → IsBitmap held p l.a → IsBitmap held q l.b → IsBitmap held r l.c → IsBitmap held s l.d
    → l.count ≡ capped (count_by (λ h. (p h && (q h && r h)) && s h) (take (l.j * 64) held))
