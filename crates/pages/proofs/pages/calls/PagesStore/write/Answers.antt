use Rattle.std.proofs.Common.{arith}
use Rattle.pages.proofs.Paging.{bytes_long}
use Rattle.pages.proofs.pages.calls.PagesStore.write.Goals as goal

pub write-requires : goal.write-requires
write-requires c =
    let l = c.args.self.now.listed in omega (arith, c.in_ok-at.ensures.within, bytes_long l, l.list.ok.0)
