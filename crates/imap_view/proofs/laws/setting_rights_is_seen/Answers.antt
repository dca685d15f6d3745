use Rattle.imap_view.proofs.SettingRights.{setting_rights}
use Rattle.imap_view.proofs.laws.setting_rights_is_seen.Goals as goal

pub returns : goal.returns
returns c = setting_rights
