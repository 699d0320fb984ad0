use Rattle.th_traces.proofs.PicturesFound.{pictures-again, pictures-found}
use Rattle.th_traces.proofs.laws.one_spelling_of_pictures.Goals as goal

pub returns : goal.returns
returns c = record { found = pictures-found; again = pictures-again }
