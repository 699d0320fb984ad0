use Rattle.th_model.proofs.Delivered.{law_of_new_receivers}
use Rattle.th_accounts.proofs.Clients.{made_clients}
use Rattle.th_accounts.proofs.laws.clients_were_told_from_their_making.Goals as goal

pub returns : goal.returns
returns g c = made_clients law_of_new_receivers
