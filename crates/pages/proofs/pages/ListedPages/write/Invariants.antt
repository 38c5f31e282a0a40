use Rattle.std.proofs.Common.{◌≡◌, ◌-◌, ◌*◌, min, length, take, vec_len}
use Rattle.stores.specs.Splices.{spliced}
use Rattle.pages.specs.PageStores.{bytes_of}
use Rattle.pages.specs.Paging.{OthersSame}
use Rattle.pages.proofs.pages.ListedPages.write.Given as goal

-- as many bytes are done as the pages before page i of the list have; they are written, and no page that is not listed is touched; the memory keeps its length
abbrev pub invariant-loop-i : goal.invariant-loop-i
invariant-loop-i l =
    (l.done ≡ min (16 * l.i - l.at) (length l.bytes))
    × (l.self.list ≡ l.initial.self.list)
    × (bytes_of l.self ≡ spliced (bytes_of l.initial.self) l.at (take (min (16 * l.i - l.at) (length l.bytes)) l.bytes))
    × OthersSame l.initial.self.list.items l.initial.self.memory.items l.self.memory.items
    × (vec_len l.self.memory ≡ vec_len l.initial.self.memory)
