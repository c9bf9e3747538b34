-- `running::trace_fits` meets its contract. Assumes nothing.
use lib.ListN.{length}
use Rattle.emulator.specs.Run.{pair_count}
use Rattle.emulator.proofs.Door.{exactly}
use Rattle.running.proofs.trace_fits.Goals as goal

pub returns : goal.returns
returns c = exactly (length c.args.trace.now) (pair_count c.args.recording.now)
