mod GroupHalves
mod ScriptHalves
