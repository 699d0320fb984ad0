use Rattle.th_news.proofs.WatchWaiting.{waits_on}
use Rattle.th_news.proofs.laws.only_a_version_ends_a_wait.Goals as goal

pub returns : goal.returns
returns g c = λ eq p call rx s other w old some. waits_on eq p s rx w call other old some
