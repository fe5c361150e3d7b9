-- The claims of specs/Hosts, from where each is proved.
use Rattle.terrain_lists.specs.Hosts.{HostClaims, PartsKeep}
use Rattle.terrain_lists.proofs.Lists.{host_safe, host_read, host_direct, host_open}
use Rattle.terrain_lists.proofs.PartsKeep.{get_keeps, clear_keeps, load_keeps, load_from_keeps, update_keeps, predict_keeps}

pub host_claims : HostClaims
host_claims = record { safe = host_safe; read = host_read; direct = host_direct; accepted = host_open }

pub parts_keep : PartsKeep
parts_keep = record {
  get = get_keeps;
  clear = clear_keeps;
  load = load_keeps;
  load_from = load_from_keeps;
  update = update_keeps;
  predict = predict_keeps;
}
