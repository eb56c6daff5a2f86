use Rattle.file_parts.proofs.NotesOfWholes.{notes-joined}
use Rattle.file_parts.proofs.laws.joined_notes.Goals as goal

pub returns-clause-notes : goal.returns-clause-notes
returns-clause-notes c = notes-joined
