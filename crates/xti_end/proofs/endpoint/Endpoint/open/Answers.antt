use Rattle.std.proofs.Common.{◌≡◌, true, refl}
use Rattle.std.specs.Prelude.{is_none}
use Rattle.xti_end.proofs.Views.{closed-none, frames-none, symbols-none}
use Rattle.xti_end.proofs.endpoint.Endpoint.open.Goals as goal

pub returns : goal.returns
returns c =
    let closed : is_none c.self.inside.body ≡ true = closed-none c.self.inside.body c.self.inside.waiting (rw (← c.self.view_is) at c.requires.closed) in
    let i = c.self.invariant in
    rw (
      c.write_over.ensures,
      ← c.self.view_is,
      i.no_pending closed,
      i.no_outstanding closed,
      i.no_disconnects closed,
      symbols-none c.self.inside.waiting.normal (i.no_normal closed),
      symbols-none c.self.inside.waiting.expedited (i.no_expedited closed),
      frames-none c.self.inside.waiting.datagrams (i.no_datagrams closed),
      i.no_errors closed,
      c.none.ensures,
      c.profile-profile.ensures,
    ) refl
