use Rattle.gj_json.proofs.Paths.PathsOfStates.{same_path}
use Rattle.gj_json.proofs.laws.same_path.Goals as goal

pub returns : goal.returns
returns c = λ bytes more other first second h k. same_path bytes more other first second h k
