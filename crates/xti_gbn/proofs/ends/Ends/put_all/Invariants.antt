use Rattle.std.proofs.Common.{◌≡◌, ◌++◌, map, take}
use Rattle.xti_gbn.specs.Wire.{packet_text}
use Rattle.xti_gbn.proofs.ends.Ends.put_all.Given as goal

abbrev pub invariant-loop-packet : goal.invariant-loop-packet
invariant-loop-packet l = l.self ≡ record l.initial.self { packets = l.initial.self.packets ++ map packet_text (take l.packet-index l.packets) }
