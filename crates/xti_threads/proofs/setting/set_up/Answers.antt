use Rattle.xti_threads.proofs.setting.set_up.Goals as goal

pub loop-init : goal.loop-init
loop-init g c = record {
  sets = c.requires.sets;
  whole = c.requires.whole;
}
