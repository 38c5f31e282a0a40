use Rattle.std.proofs.Common.{◌≡◌, ◌-◌, ◌*◌, min, length, take, drop}
use Rattle.pages.specs.PageStores.{bytes_of}
use Rattle.pages.proofs.pages.ListedPages.read.Given as goal

-- as many bytes are done as the pages before page i of the list have; so far the buffer holds the listed bytes from `at` on
abbrev pub invariant-loop-i : goal.invariant-loop-i
invariant-loop-i l =
    (l.done ≡ min (16 * l.i - l.at) (length l.initial.buffer))
    × (take (min (16 * l.i - l.at) (length l.initial.buffer)) l.buffer ≡ take (min (16 * l.i - l.at) (length l.initial.buffer)) (drop l.at (bytes_of l.self)))
