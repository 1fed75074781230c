use Rattle.std.proofs.Common.{◌≡◌, List, take}
use Rattle.xti_gather.specs.Glances.{IsSameLater}
use Rattle.xti_gather.specs.declared.glancing.found.Glance.{Glance}
use Rattle.xti_poll.specs.Tables.{AreFound, table_text}
use Rattle.xti_poll.proofs.tables.table.Given as goal

abbrev pub invariant-loop-fd : goal.invariant-loop-fd
invariant-loop-fd g l = record {
  hall : l.caller.hall ≡ l.initial.caller.hall;
  id : l.caller.id ≡ l.initial.caller.id;
  same : IsSameLater l.initial.caller.view l.caller.view;
  found : (gs : List Glance) × AreFound l.initial.caller.view (take l.fd-index l.fds) gs l.caller.view × (l.out.items ≡ table_text (take l.fd-index l.fds) gs);
}
