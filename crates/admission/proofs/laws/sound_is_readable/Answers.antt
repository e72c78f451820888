use Rattle.admission.proofs.ReadSound.{read_sound}
use Rattle.admission.proofs.SoundRead.{sound_read}
use Rattle.admission.proofs.laws.sound_is_readable.Goals as goal

pub returns : goal.returns
returns c = record { read = read_sound; written = sound_read }
