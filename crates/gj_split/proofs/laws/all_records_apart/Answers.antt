use Rattle.gj_split.proofs.RecordsApart.{merged_records}
use Rattle.gj_split.proofs.laws.all_records_apart.Goals as goal

pub returns : goal.returns
returns c = merged_records
